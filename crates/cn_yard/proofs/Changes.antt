-- What callers see when a yard gets its lines, and when a token comes, moves or goes.
use Rattle.cn_yard.proofs.Common.{max, ◌≡◌, ◌≢◌, ℕ, ◌+◌, ◌<◌, inl, inr, false, eqb, List, [], ◌++◌, length, refl, sym, ap, ◌∙◌, arith, subst, Inside, Keeps, Line, Lists, Record, Yard, cases_eq, cases_lt, client_of, count_of, last_on, lists_of, moved, nat_tests, next_of, on, prev_of, standing, times, tokens_in, wire_of, without, yard_of, append-nil, ext_get_or, Admits, Moves, Releases, IsClient, IsLinks, SameBut, with_clients, ◌^◌, ◌/◌, ◌%◌, replicate, bit_at, get_or-replicate, length-replicate, bit_at-zero, line_of, marked, no_line, times-nil, sum-below-zero, empty, Chain, last_or, Ends, IsYard, when, ◌≤◌, cond, eq-eqb, but, Some, ne_eqb, map-append, last_of}
use Rattle.cn_yard.proofs.Chains.{chain-same, times-but}
use Rattle.cn_yard.proofs.Keyed.{lookup-added, lookup-gone, lookup-last, lookup-without, times-absent, without-same}
use Rattle.cn_yard.proofs.There.{standing-added, standing-none, standing-same}
use Rattle.cn_yard.proofs.Wires.{on-beyond, wires-are, absent-free, clients-last, clients-same, on-wire, tokens-are, without-clients, bare-empty, closed, closed-bare, empty-of, opened}

-- ---- a record has another client

pub links-client : (records : List Record) (lines : List Line) (records' : List Record) (order : ℕ → List ℕ) (t client : ℕ)
    → IsLinks records lines order → IsClient records records' t client → IsLinks records' lines order
links-client records lines records' order t client is new =
    let l = is.linked in
    record {
      linked = record {
        chain = λ u h. chain-same (next_of records) (prev_of records) (next_of records') (prev_of records') (order u) (l.chain u h)
            (λ z i. new.next z) (λ z i. new.prev z);
        ends = l.ends;
        once = λ n u h. rw (new.wire n) (l.once n u h);
        below = λ n u h i. rw new.len (l.below n u h i);
      };
      within = λ n h. rw (new.wire n) (is.within n (rw new.len at h));
      there = λ n h. rw (new.wire n) (is.there n (rw new.len at h));
      all = is.all ∙ sym new.len;
    }

-- ---- more free records

pub lists-same : (y z : Inside) (order order' : ℕ → List ℕ) → Keeps y order → Keeps z order' → z.wires ≡ y.wires
    → SameBut y.wires order order'
    → ((n : ℕ) → n < length y.records.items → client_of z.records.items n ≡ client_of y.records.items n)
    → lists_of z ≡ lists_of y
lists-same y z order order' k k' wires same clients =
    let as_many = wires-are y in
    let as_many' = wires-are z in
    let w = k.wires in
    ext_get_or [] (lists_of z) (lists_of y) (as_many' ∙ wires ∙ sym as_many)
    (λ u h. let l : u < y.wires = omega (arith, as_many', wires) in
    on-wire z order' k' u (omega (arith, wires))
    ∙ ap (λ xs. with_clients (client_of z.records.items) xs) (same u (λ e. absurd (omega arith)))
    ∙ clients-same (client_of y.records.items) (client_of z.records.items) (order u)
    (λ n i. clients n (k.lined.links.linked.below n u (omega arith) i))
    ∙ sym (on-wire y order k u l))

-- ---- a record is moved from line to line

-- what is needed of the yard after it: its client may be another
pub record Shifted (y z : Inside) (order : ℕ → List ℕ) (t to : ℕ) : Type 0 where
  pub old : Keeps y order
  pub new : Keeps z (moved order t to)
  pub wires : z.wires ≡ y.wires
  pub clients : (n : ℕ) → n ≢ t → client_of z.records.items n ≡ client_of y.records.items n
  pub len : length z.records.items ≡ length y.records.items
  pub count : (u : ℕ) → count_of z.lines.items u + when (eqb (wire_of y.records.items t) u) 1
      ≡ count_of y.lines.items u + when (eqb to u) 1

module _ (y z : Inside) (order : ℕ → List ℕ) (t to : ℕ) (s : Shifted y z order t to) where
  abbrev client : ℕ
  client = client_of z.records.items t

  as_many : length (lists_of z) ≡ length (lists_of y)
  as_many = wires-are z ∙ s.wires ∙ sym (wires-are y)

  -- all records are tokens or free
  tokens : tokens_in (lists_of z) + count_of z.lines.items y.wires
      ≡ tokens_in (lists_of y) + count_of y.lines.items y.wires
  tokens = omega (
    arith,
    tokens-are y order s.old,
    tokens-are z (moved order t to) s.new,
    ap (count_of z.lines.items) s.wires,
    s.len,
  )

  on-moved : (u : ℕ) → u < y.wires → on (lists_of z) u ≡ without t (on (lists_of y) u) ++ last_on t client to u
  on-moved u h =
      let w = s.old.wires in
      let old = client_of y.records.items in
      let new = client_of z.records.items in
      let still : (n : ℕ) → 1 ≤ times n (but t (order u)) → new n ≡ old n =
      λ n inside. s.clients n (λ e. absurd (let left = times-but n t (order u) in grind (arith, nat_tests))) in
      let here = on-wire z (moved order t to) s.new u (omega (arith, s.wires)) in
      let parts = map-append {B = ℕ × ℕ} (λ n. (n, new n)) (but t (order u)) (last_of t to u) in
      let kept : with_clients new (but t (order u)) ≡ without t (on (lists_of y) u) =
      clients-same old new (but t (order u)) still ∙ sym (without-clients old t (order u))
      ∙ ap (λ es. without t es) (sym (on-wire y order s.old u h)) in
      rw (here, parts, kept, clients-last new t to u) refl

  -- ---- to a wire

  module _ (h : to < y.wires) where
    lists : (u : ℕ) → on (lists_of z) u ≡ without t (on (lists_of y) u) ++ last_on t client to u
    lists u = elim (cases_lt u y.wires) [
      | inl l ↦ on-moved u l
      | inr l ↦ rw (on-beyond z u (omega (arith, s.wires)), on-beyond y u l, ne_eqb to u (λ e. omega arith)) refl
    ]

    stands : (other : ℕ) → standing (lists_of z) other
        ≡ cond (eqb other t) (Some (to, client)) (standing (lists_of y) other)
    stands = standing-added (lists_of y) (lists_of z) t client to as_many (omega (arith, wires-are y))
        (λ u l. rw (lists u) (lookup-added t client to u _ (lookup-gone t (on (lists_of y) u))))
        (λ other u n. rw (lists u) (lookup-last other t client to u _ n
        ∙ lookup-without other t (on (lists_of y) u) n))

    -- from another wire
    pub moves-of : wire_of y.records.items t < y.wires → Moves (yard_of y) (yard_of z) t client to
    moves-of from =
        let count = s.count y.wires in
        let same : count_of z.lines.items y.wires ≡ count_of y.lines.items y.wires = grind (arith, nat_tests) in
        record {
          wires = as_many;
          lists = lists;
          spare = rw s.wires same;
          standing_now = stands;
          tokens = omega (arith, tokens);
        }

    -- from the free records: the yard before is seen from its lists, since free records may have come since
    pub admits-of : (old : Yard) → lists_of y ≡ old.lists → count_of y.lines.items y.wires ≡ max 1 old.spare
        → wire_of y.records.items t ≡ y.wires → Admits old (yard_of z) t client to
    admits-of old same most free =
        let count = s.count y.wires in
        let spare : count_of z.lines.items y.wires + 1 ≡ count_of y.lines.items y.wires = grind (arith, nat_tests) in
        let absent = absent-free y order s.old t (omega (arith, free)) in
        subst (λ (ls : Lists). Admits (record { lists = ls; spare = old.spare }) (yard_of z) t client to) same (record {
          fresh = standing-none (length (lists_of y)) (lists_of y) t (λ u _. absent u);
          wires = as_many;
          lists = λ u. lists u ∙ ap (λ es. es ++ last_on t client to u)
              (without-same t (on (lists_of y) u) (times-absent (on (lists_of y) u) t (absent u)));
          spare = rw s.wires (grind arith);
          standing_now = stands;
          tokens = omega (arith, tokens);
        })

-- ---- to the free records

pub releases-of : (y z : Inside) (order : ℕ → List ℕ) (t : ℕ) → Shifted y z order t y.wires
    → wire_of y.records.items t < y.wires → Releases (yard_of y) (yard_of z) t
releases-of y z order t s from =
    let count = s.count y.wires in
    let old = lists_of y in
    let new = lists_of z in
    let more : count_of z.lines.items y.wires ≡ count_of y.lines.items y.wires + 1 = grind (arith, nat_tests) in
    record {
      wires = as_many y z order t y.wires s;
      lists = lists;
      spare = rw s.wires more;
      standing_now = λ other. elim (cases_eq other t) [
        | inl e ↦ rw (e, eq-eqb t t refl)
            (standing-none (length new) new t (λ u h. rw (lists u) (lookup-gone t (on old u))))
        | inr o ↦ rw (ne_eqb other t o, as_many y z order t y.wires s)
            (standing-same (length old) old new other (λ u. rw (lists u) (lookup-without other t (on old u) o)))
      ];
      tokens = omega (arith, tokens y z order t y.wires s);
    }
  where
    lists : (u : ℕ) → on (lists_of z) u ≡ without t (on (lists_of y) u)
    lists u = elim (cases_lt u y.wires) [
      | inl l ↦ let f : eqb y.wires u ≡ false = grind (arith, nat_tests) in
          on-moved y z order t y.wires s u l ∙ rw f (append-nil (without t (on (lists_of y) u)))
      | inr l ↦ rw (on-beyond z u (omega (arith, s.wires)), on-beyond y u l) refl
    ]

-- A yard whose lines are made: its lists are empty, and so are its lines.

-- the ends of a line with nobody
no-ends : Ends no_line []
unfolding last_or
no-ends = record { count = refl; first = refl; last = refl }

-- each line is empty, and no bit is set
pub new-keeps : (y : Inside) → y.records.items ≡ [] → y.lines.items ≡ replicate (y.wires + 1) no_line
    → y.marks.items ≡ replicate (y.wires / 64 + 1) 0 → y.wires < 2 ^ 32 → Keeps y (λ u. [])
unfolding Chain
new-keeps y r l m fits =
    let as_many : length y.lines.items ≡ y.wires + 1 = ap length l ∙ length-replicate (y.wires + 1) no_line in
    let words : length y.marks.items ≡ y.wires / 64 + 1 = ap length m ∙ length-replicate (y.wires / 64 + 1) 0 in
    let none : length y.records.items ≡ 0 = ap length r in
    let line : (u : ℕ) → u < length y.lines.items → line_of y.lines.items u ≡ no_line =
    λ u h. ap (λ ls. line_of ls u) l ∙ get_or-replicate (y.wires + 1) u no_line no_line (omega arith) in
    record {
      lined = record {
        links = record {
          linked = record {
            chain = λ u h. tt;
            ends = λ u h. rw (line u h) no-ends;
            once = λ n u h. omega (arith, times-nil n);
            below = λ n u h some. absurd (omega (arith, times-nil n));
          };
          within = λ n h. absurd (omega arith);
          there = λ n h. absurd (omega arith);
          all = sum-below-zero (length y.lines.items) (λ u. 0) (λ u. refl) ∙ sym none;
        };
        few = omega arith;
        room = omega arith;
        short = omega arith;
        marks = λ u h.
            let a : marked y.marks.items u ≡ 0 = ap (λ (ws : List ℕ). marked ws u) m
            ∙ ap (λ (w : ℕ). bit_at w (u % 64)) (get_or-replicate (y.wires / 64 + 1) (u / 64) 0 0 (omega arith))
            ∙ bit_at-zero (u % 64) in
            let b : count_of y.lines.items u ≡ 0 = ap (λ (x : Line). x.count) (line u h) in
            a ∙ rw b refl;
      };
      wires = as_many;
    }

-- a caller sees an empty yard
pub new-empty : (y : Inside) → Keeps y (λ u. []) → y.lines.items ≡ replicate (y.wires + 1) no_line → yard_of y ≡ empty y.wires
new-empty y k l =
    empty-of y (λ u h. on-wire y (λ u. []) k u h)
    (ap (λ ls. count_of ls y.wires) l ∙ ap (λ (x : Line). x.count) (get_or-replicate (y.wires + 1) y.wires no_line no_line (omega arith)))

-- ---- the lines are made, if there are none

-- what `make_lines` leaves of a yard
pub record HasLines (y z : Inside) : Type 0 where
  pub wires : z.wires ≡ y.wires
  pub fits : y.wires < 2 ^ 32
  pub records : z.records.items ≡ y.records.items
  pub same : 0 < length y.lines.items → (z.lines.items ≡ y.lines.items) × (z.marks.items ≡ y.marks.items)
  pub made : y.lines.items ≡ [] → y.marks.items ≡ []
      → (z.lines.items ≡ replicate (y.wires + 1) no_line) × (z.marks.items ≡ replicate (y.wires / 64 + 1) 0)

-- the same items make the same yard
pub keeps-same : (y z : Inside) (order : ℕ → List ℕ) → z.wires ≡ y.wires → z.records.items ≡ y.records.items → z.lines.items ≡ y.lines.items
    → z.marks.items ≡ y.marks.items → Keeps y order → Keeps z order
keeps-same y z order w r l m k = record { lined = rw (r, l, m) k.lined; wires = rw (l, w) k.wires }

pub view-same : (y z : Inside) → z.wires ≡ y.wires → z.records.items ≡ y.records.items → z.lines.items ≡ y.lines.items
    → yard_of z ≡ yard_of y
view-same y z w r l = rw (w, r, l) refl

pub is-same : (y z : Inside) → z.wires ≡ y.wires → z.records.items ≡ y.records.items → z.lines.items ≡ y.lines.items
    → z.marks.items ≡ y.marks.items → IsYard y → IsYard z
is-same y z w r l m is = elim (opened y is) [
  | inl b ↦ closed-bare (record { records = r ∙ b.records; lines = l ∙ b.lines; marks = m ∙ b.marks })
  | inr k ↦ closed (keeps-same y z k.0 w r l m k.1)
]

-- a yard with its lines, which a caller sees as the one before
pub lines-made : (y z : Inside) → IsYard y → HasLines y z → ((order : ℕ → List ℕ) × Keeps z order) × (yard_of z ≡ yard_of y)
lines-made y z is has = elim (opened y is) [
  | inr k ↦
      let (l, m) = has.same (omega (arith, k.1.wires)) in
      ((k.0, keeps-same y z k.0 has.wires has.records l m k.1), view-same y z has.wires has.records l)
  | inl b ↦
      let (l, m) = has.made b.lines b.marks in
      let lines : z.lines.items ≡ replicate (z.wires + 1) no_line = rw has.wires l in
      let marks : z.marks.items ≡ replicate (z.wires / 64 + 1) 0 = rw has.wires m in
      let keeps = new-keeps z (has.records ∙ b.records) lines marks (omega (arith, has.fits, has.wires)) in
      (((λ u. []), keeps), new-empty z keeps lines ∙ ap empty has.wires ∙ sym (bare-empty y b))
]
