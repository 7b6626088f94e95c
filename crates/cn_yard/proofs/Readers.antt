-- What a yard's readers return.
use Rattle.cn_yard.proofs.Common.{◌≡◌, ℕ, ◌+◌, ◌*◌, ◌<◌, ◌≤◌, inl, inr, true, false, cond, eqb, ltb, List, [], ◌∷◌, length, get_or, refl, sym, ap, ◌∙◌, arith, subst, Option, Some, None, IsSome, IsTrue, ◌↔◌, Inside, Keeps, Line, Record, cases_lt, client_of, count_of, line_of, lists_of, marked, nat_tests, next_of, no_line, on, prev_of, standing, times, tokens_in, wire_of, get_or_read, nil_from_length, MOST_TOKENS, IsLowest, IsThere, next_after, first_of, last_or, Ends, no_record, IsYard, with_clients}
use Rattle.cn_yard.proofs.Wires.{bare-count, bare-on, bare-records, bare-tokens, kept-live, on-beyond, opened, after-clients, length-on, live, on-wire, standing-live, there-live, tokens-are}
use Rattle.cn_yard.proofs.There.{first}

module _ (y : Inside) (order : ℕ → List ℕ) (k : Keeps y order) where
  -- a line as the code reads it
  line-read : (u : ℕ) (line : Line) → u ≤ y.wires → line ≡ get_or y.lines.items u line → line ≡ line_of y.lines.items u
  line-read u line h at = let w = k.wires in get_or_read y.lines.items u line (omega arith) at no_line

  pub count-read : (u : ℕ) (line : Line) → u ≤ y.wires → line ≡ get_or y.lines.items u line
      → line.count ≡ count_of y.lines.items u
  count-read u line h at = ap (λ (l : Line). l.count) (line-read u line h at)

  -- the first on a wire
  pub first-read : (u : ℕ) (line : Line) → u < y.wires → line ≡ get_or y.lines.items u line
      → first_of (on (lists_of y) u) ≡ cond (eqb line.count 0) None (Some line.first)
  first-read u line h at =
      let w = k.wires in
      let e = line-read u line (omega arith) at in
      rw (on-wire y order k u h) (by line (order u)
      (subst (λ (l : Line). Ends l (order u)) (sym e) (k.lined.links.linked.ends u (omega arith))))
    where
      by : (line : Line) (xs : List ℕ) → Ends line xs
          → first_of (with_clients (client_of y.records.items) xs) ≡ cond (eqb line.count 0) None (Some line.first)
      by line [] e = let c = e.count in let f : eqb line.count 0 ≡ true = grind (arith, nat_tests) in rw f refl
      by line (x ∷ xs) e = let c = e.count in let f : eqb line.count 0 ≡ false = grind (arith, nat_tests) in
          rw f (ap (λ (n : ℕ). Some n) e.first)

  -- a record as the code reads it
  pub record-read : (t : ℕ) (r : Record) → t < length y.records.items → r ≡ get_or y.records.items t r
      → r ≡ get_or y.records.items t no_record
  record-read t r h at = get_or_read y.records.items t r h at no_record

  stands-read : (t : ℕ) (r : Record) → IsSome (standing (lists_of y) t) → r ≡ get_or y.records.items t r
      → standing (lists_of y) t ≡ Some (r.wire, r.client)
  stands-read t r stands at =
      let (h, on') = live y order k t stands in
      standing-live y order k t h on' ∙ ap (λ (s : Record). Some (s.wire, s.client)) (sym (record-read t r h at))

  -- its wire is one of the wires
  pub wire-read : (t : ℕ) (r : Record) → IsSome (standing (lists_of y) t) → r ≡ get_or y.records.items t r → r.wire < y.wires
  wire-read t r stands at =
      let (h, on') = live y order k t stands in
      let e : r.wire ≡ wire_of y.records.items t = ap (λ (s : Record). s.wire) (record-read t r h at) in
      rw e on'

  -- it stands there exactly where its record names a wire
  pub live-read : (t : ℕ) (r : Record) → t < length y.records.items → r ≡ get_or y.records.items t r
      → IsTrue (ltb r.wire y.wires) ↔ IsSome (standing (lists_of y) t)
  live-read t r h at =
      let e : r.wire ≡ wire_of y.records.items t = ap (λ (s : Record). s.wire) (record-read t r h at) in (
        λ test. let on' : wire_of y.records.items t < y.wires = rw e at (let l : r.wire < y.wires = grind (arith, nat_tests) in l) in
            some (standing-live y order k t h on'),
        λ stands. let on' = wire-read t r stands at in grind (arith, nat_tests),
      )
    where
      some : {o : Option (ℕ × ℕ)} {x : ℕ × ℕ} → o ≡ Some x → IsSome o
      some e = rw e refl

  -- the one after it
  pub next-read : (t : ℕ) (r : Record) (line : Line) (wire client : ℕ) → IsSome (standing (lists_of y) t)
      → r ≡ get_or y.records.items t r → line ≡ get_or y.lines.items r.wire line
      → standing (lists_of y) t ≡ Some (wire, client) → next_after t (on (lists_of y) wire) ≡ cond (eqb line.last t) None (Some r.next)
  next-read t r line wire client stands at line_at is =
      let as_many = k.wires in
      let (h, on') = live y order k t stands in
      let e = record-read t r h at in
      let w = wire_of y.records.items t in
      let within : r.wire < y.wires = wire-read t r stands at in
      let same : wire ≡ r.wire = first (sym is ∙ stands-read t r stands at) in
      let same' : r.wire ≡ w = ap (λ (s : Record). s.wire) e in
      let l = line-read r.wire line (omega arith) line_at in
      let ends = k.lined.links.linked.ends r.wire (omega arith) in
      let last : last_or line.last (order r.wire) ≡ line.last =
      subst (λ (l : Line). last_or l.last (order r.wire) ≡ l.last) (sym l) ends.last in
      let one : times t (order r.wire) ≡ 1 = rw same' (k.lined.links.there t h) in
      let all = after-clients (next_of y.records.items) (prev_of y.records.items) (client_of y.records.items) t line.last (order r.wire)
      (k.lined.links.linked.chain r.wire (omega arith)) one in
      let next : next_of y.records.items t ≡ r.next = ap (λ (s : Record). s.next) (sym e) in
      rw (same, on-wire y order k r.wire within) (all ∙ rw (last, next) refl)

  -- ---- the lowest wire

  -- a wire with no mark has nobody
  nobody : (u : ℕ) → (u < y.wires → marked y.marks.items u ≡ 0) → on (lists_of y) u ≡ []
  nobody u none = elim (cases_lt u y.wires) [
    | inl l ↦ let as_many = k.wires in let m = k.lined.marks u (omega arith) in let z = none l in
        nil_from_length (on (lists_of y) u) (length-on y order k u l ∙ (grind (arith, nat_tests)))
    | inr l ↦ on-beyond y u l
  ]

  -- nobody stands below a wire: the least number with a mark, from a word on that begins there or before, is the lowest
  -- wire, where it is one of a wire
  module _ (from word : ℕ) (before : 64 * word ≤ from) (none : (u : ℕ) → u < from → on (lists_of y) u ≡ []) where
    nobody-at : (u : ℕ) → (u < y.wires → 64 * word ≤ u → marked y.marks.items u ≡ 0) → on (lists_of y) u ≡ []
    nobody-at u lower = elim (cases_lt u (64 * word)) [
      | inl l ↦ none u (omega (arith, l, before))
      | inr l ↦ nobody u (λ within. lower within l)
    ]

    pub lowest-read : (wire : ℕ) → wire < y.wires → (marked y.marks.items wire ≡ 1)
        → ((n : ℕ) → 64 * word ≤ n → n < wire → marked y.marks.items n ≡ 0) → IsLowest (lists_of y) wire
    lowest-read wire h one lower = record {
      some = let as_many = k.wires in let m = k.lined.marks wire (omega arith) in
          rw (length-on y order k wire h) (grind (arith, nat_tests));
      below = λ u l. nobody-at u (λ _ w. lower u w l);
    }

    -- where the least is beyond the wires, or there is none, nobody stands on any wire
    pub none-read : (least : ℕ) → y.wires ≤ least → ((n : ℕ) → 64 * word ≤ n → n < least → marked y.marks.items n ≡ 0) → (u : ℕ)
        → on (lists_of y) u ≡ []
    none-read least h lower u = nobody-at u (λ l w. lower u w (omega arith))

-- ---- of each yard, with lines or bare

-- a token that stands there is a record, and is where that says
module _ (y : Inside) (is : IsYard y) (t : ℕ) (stands : IsSome (standing (lists_of y) t)) where
  pub live-number : t < length y.records.items
  live-number = let (order, k) = kept-live y t is stands in (live y order k t stands).0

  pub live-there : (r : Record) → r ≡ get_or y.records.items t r → IsThere (lists_of y) t r.client r.wire
  live-there r at =
      let (order, k) = kept-live y t is stands in
      rw (record-read y order k t r live-number at) (there-live y order k t stands)

module _ (y : Inside) (is : IsYard y) where
  -- as many stand on a wire as its line counts
  pub count-all : (u : ℕ) → u < y.wires → length (on (lists_of y) u) ≡ count_of y.lines.items u
  count-all u h = elim (opened y is) [
    | inl b ↦ ap length (bare-on y b u) ∙ sym (bare-count y b u)
    | inr k ↦ length-on y k.0 k.1 u h
  ]

  -- all records are tokens or free, and they are few
  pub tokens-all : tokens_in (lists_of y) + count_of y.lines.items y.wires ≡ length y.records.items
  tokens-all = elim (opened y is) [
    | inl b ↦ omega (arith, bare-tokens y b, bare-count y b y.wires, bare-records y b)
    | inr k ↦ tokens-are y k.0 k.1
  ]

  pub few-all : length y.records.items ≤ MOST_TOKENS
  few-all = elim (opened y is) [
    | inl b ↦ omega (arith, bare-records y b)
    | inr k ↦ k.1.lined.few
  ]

  -- where somebody is counted, or a record stands, the lines are there
  pub kept-count : (u : ℕ) → 0 < count_of y.lines.items u → (order : ℕ → List ℕ) × Keeps y order
  kept-count u some = elim (opened y is) [
    | inl b ↦ absurd (omega (arith, some, bare-count y b u))
    | inr k ↦ k
  ]

  pub kept-record : 0 < length y.records.items → (order : ℕ → List ℕ) × Keeps y order
  kept-record some = elim (opened y is) [
    | inl b ↦ absurd (omega (arith, some, bare-records y b))
    | inr k ↦ k
  ]

  -- without lines nobody stands anywhere
  pub nobody-all : length y.lines.items ≡ 0 → (u : ℕ) → on (lists_of y) u ≡ []
  nobody-all none u = elim (opened y is) [
    | inl b ↦ bare-on y b u
    | inr k ↦ absurd (omega (arith, none, k.1.wires))
  ]
