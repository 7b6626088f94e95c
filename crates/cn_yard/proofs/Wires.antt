-- What stands on the wires of a yard, which has lines or is bare.
use Rattle.cn_yard.proofs.Common.{◌≡◌, ◌⊎◌, inl, inr, ℕ, ◌<◌, ◌≤◌, List, [], length, refl, sym, ap, ◌∙◌, arith, None, Inside, Keeps, Line, Lists, Yard, cases_lt, client_of, count_by, count_of, lists_of, on, standing, times_in, tokens_in, yard_of, IsSome, nat_eq, replicate, range_with_len, ext_get_or, get_or_past, get_or-replicate, length-map, length-replicate, get_or-map-range_with_len, length-range_with_len, sum-below-zero, empty, walk, IsBare, IsYard, walked, with_clients, zero, suc, ◌+◌, cond, eqb, ltb, ◌∷◌, Some, but, last_on, line_of, lookup, nat_tests, next_of, prev_of, times, times-nil, wire_of, without, sum_by-cons, sum_below, times-cons, sum-below-next, sum-below-same, IsThere, next_after, Chain, last_of, last_or}
use Rattle.cn_yard.proofs.There.{standing-none, standing-only, there}
use Rattle.cn_yard.proofs.Chains.{last-in, walk-chain}

-- A yard without lines: nobody stands there, and no record is free.

-- what the type keeps, opened and closed
pub opened : (y : Inside) → IsYard y → IsBare y ⊎ ((order : ℕ → List ℕ) × Keeps y order)
unfolding IsYard
opened y is = is

pub closed : {y : Inside} {order : ℕ → List ℕ} → Keeps y order → IsYard y
unfolding IsYard
closed {y} {order} k = inr (order, k)

pub closed-bare : {y : Inside} → IsBare y → IsYard y
unfolding IsYard
closed-bare {y} b = inl b

-- there are as many lists as wires, and nobody stands beyond
pub wires-are : (y : Inside) → length (lists_of y) ≡ y.wires
wires-are y = length-map (range_with_len 0 y.wires) (λ u. with_clients (client_of y.records.items) (walked y.records.items y.lines.items u))
    ∙ length-range_with_len 0 y.wires

pub on-beyond : (y : Inside) (u : ℕ) → y.wires ≤ u → on (lists_of y) u ≡ []
on-beyond y u h = get_or_past (lists_of y) u [] (omega (arith, wires-are y))

abbrev yard-with : Lists → ℕ → Yard
yard-with lists spare = record { lists = lists; spare = spare }

-- a yard as callers see it, of its parts
pub both : {a b : Lists} {m n : ℕ} → a ≡ b → m ≡ n → yard-with a m ≡ yard-with b n
both e f = rw (e, f) refl

-- no list has a token, and none is free: an empty yard
pub empty-of : (y : Inside) → ((u : ℕ) → u < y.wires → on (lists_of y) u ≡ []) → count_of y.lines.items y.wires ≡ 0
    → yard_of y ≡ empty y.wires
empty-of y none free =
    both (ext_get_or [] (lists_of y) (replicate y.wires []) (wires-are y ∙ sym (length-replicate y.wires []))
    (λ u h. let w = wires-are y in none u (omega arith) ∙ sym (get_or-replicate y.wires u [] [] (omega arith)))) free

module _ (y : Inside) (b : IsBare y) where
  pub bare-count : (u : ℕ) → count_of y.lines.items u ≡ 0
  bare-count u = ap (λ (ls : List Line). count_of ls u) b.lines

  pub bare-on : (u : ℕ) → on (lists_of y) u ≡ []
  unfolding walk
  bare-on u = elim (cases_lt u y.wires) [
    | inr l ↦ on-beyond y u l
    | inl l ↦ get_or-map-range_with_len (λ w. with_clients (client_of y.records.items) (walked y.records.items y.lines.items w)) 0 y.wires u
        u [] l (omega arith) ∙ nobody u
  ]
    where
      nobody : (u : ℕ) → with_clients (client_of y.records.items) (walked y.records.items y.lines.items u) ≡ []
      nobody u = rw b.lines refl

  pub bare-standing : (t : ℕ) → standing (lists_of y) t ≡ None
  bare-standing t = standing-none (length (lists_of y)) (lists_of y) t (λ u h. rw (bare-on u) refl)

  pub bare-stands : (t : ℕ) → IsSome (standing (lists_of y) t) → ⊥
  bare-stands t stands = let none = bare-standing t in let some = rw none at stands in cc

  pub bare-tokens : tokens_in (lists_of y) ≡ 0
  bare-tokens = sum-below-zero (length (lists_of y)) (λ u. length (on (lists_of y) u)) (λ u. ap length (bare-on u))

  pub bare-times : (t : ℕ) → times_in (lists_of y) t ≡ 0
  bare-times t = sum-below-zero (length (lists_of y)) (λ u. count_by (λ e. nat_eq t e.0) (on (lists_of y) u))
      (λ u. ap (λ es. count_by (λ e. nat_eq t e.0) es) (bare-on u))

  pub bare-records : length y.records.items ≡ 0
  bare-records = ap length b.records

  pub bare-empty : yard_of y ≡ empty y.wires
  bare-empty = empty-of y (λ u h. bare-on u) (bare-count y.wires)

-- a yard with a line, or a token, has its lines
pub kept-some : (y : Inside) → IsYard y → 0 < length y.lines.items → (order : ℕ → List ℕ) × Keeps y order
kept-some y is some = elim (opened y is) [
  | inl b ↦ absurd (omega (arith, some, ap length b.lines))
  | inr k ↦ k
]

pub kept-live : (y : Inside) (t : ℕ) → IsYard y → IsSome (standing (lists_of y) t) → (order : ℕ → List ℕ) × Keeps y order
kept-live y t is stands = elim (opened y is) [
  | inl b ↦ absurd (bare-stands y b t stands)
  | inr k ↦ k
]

-- ---- numbers with their clients

-- how often a number stands among numbers with their clients
pub times-clients : (client : ℕ → ℕ) (t : ℕ) (xs : List ℕ) → count_by (λ e. nat_eq t e.0) (with_clients client xs) ≡ times t xs
times-clients client t [] = let none = times-nil t in grind (arith, nat_tests)
times-clients client t (x ∷ xs) = grind (
  arith,
  nat_tests,
  times-cons t x xs,
  times-clients client t xs,
  sum_by-cons (λ e. cond (nat_eq t e.0) 1 0) (x, client x) (with_clients client xs),
)

-- a number that is not there has no client, and one that is there has its own
pub lookup-out : (client : ℕ → ℕ) (t : ℕ) (xs : List ℕ) → times t xs ≡ 0 → lookup (nat_eq t) (with_clients client xs) ≡ None
lookup-out client t [] h = refl
lookup-out client t (x ∷ xs) h = grind (arith, nat_tests, times-cons t x xs, lookup-out client t xs)

pub lookup-in : (client : ℕ → ℕ) (t : ℕ) (xs : List ℕ) → 1 ≤ times t xs
    → lookup (nat_eq t) (with_clients client xs) ≡ Some (client t)
lookup-in client t [] h = absurd (omega (arith, times-nil t))
lookup-in client t (x ∷ xs) h = grind (arith, nat_tests, times-cons t x xs, lookup-in client t xs)

-- without one of them
pub without-clients : (client : ℕ → ℕ) (t : ℕ) (xs : List ℕ) → without t (with_clients client xs) ≡ with_clients client (but t xs)
without-clients client t [] = refl
without-clients client t (x ∷ xs) = grind (arith, nat_tests, without-clients client t xs)

-- clients that agree on the numbers of a list
pub clients-same : (client client' : ℕ → ℕ) (xs : List ℕ) → ((n : ℕ) → 1 ≤ times n xs → client' n ≡ client n)
    → with_clients client' xs ≡ with_clients client xs
clients-same client client' [] same = refl
clients-same client client' (x ∷ xs) same =
    let here = same x (grind (arith, nat_tests, times-cons x x xs)) in
    let rest = clients-same client client' xs (λ n h. same n (omega (arith, times-cons n x xs))) in
    rw (here, rest) refl

-- the client of a number at the end
pub clients-last : (client : ℕ → ℕ) (t to u : ℕ) → with_clients client (last_of t to u) ≡ last_on t (client t) to u
clients-last client t to u = grind (arith, nat_tests)

-- the token after one
pub after-clients : (n p : ℕ → ℕ) (client : ℕ → ℕ) (t d : ℕ) (xs : List ℕ) → Chain n p xs → times t xs ≡ 1
    → next_after t (with_clients client xs) ≡ cond (eqb (last_or d xs) t) None (Some (n t))
unfolding next_after last_or Chain
after-clients n p client t d [] c one = absurd (omega (arith, times-nil t))
after-clients n p client t d (x ∷ []) c one = grind (arith, nat_tests, times-cons t x [], times-nil t)
after-clients n p client t d (x ∷ y ∷ ys) c one =
    grind (
      arith,
      nat_tests,
      times-cons t x (y ∷ ys),
      last-in y ys,
      c.0.0,
      after-clients n p client t x (y ∷ ys) c.1,
    )

-- ---- sums

-- a sum with at most one member, which is at most 1
sum-once : (n w : ℕ) (f : ℕ → ℕ) → ((u : ℕ) → u < n → f u ≤ cond (eqb w u) 1 0) → sum_below n f ≤ cond (ltb w n) 1 0
unfolding sum_below
sum-once zero w f h = omega arith
sum-once (suc n) w f h = let here = h n (omega arith) in let rest = sum-once n w f (λ u l. h u (omega arith)) in grind (arith, nat_tests)

-- ---- a yard's wires

module _ (y : Inside) (order : ℕ → List ℕ) (k : Keeps y order) where
  -- a walk along a line meets its numbers
  pub walked-is : (u : ℕ) → u < length y.lines.items → walked y.records.items y.lines.items u ≡ order u
  walked-is u h =
      let e = k.lined.links.linked.ends u h in
      rw (e.count, ← e.first) (walk-chain (next_of y.records.items) (prev_of y.records.items) (line_of y.lines.items u).first (order u)
      (k.lined.links.linked.chain u h))

  -- each list is the line with its clients
  pub on-wire : (u : ℕ) → u < y.wires → on (lists_of y) u ≡ with_clients (client_of y.records.items) (order u)
  on-wire u h =
      get_or-map-range_with_len (λ w. with_clients (client_of y.records.items) (walked y.records.items y.lines.items w)) 0 y.wires u u [] h
      (omega arith)
      ∙ ap (λ xs. with_clients (client_of y.records.items) xs) (walked-is u (let w = k.wires in omega arith))

  -- as many stand on a wire as its line counts
  pub length-on : (u : ℕ) → u < y.wires → length (on (lists_of y) u) ≡ count_of y.lines.items u
  length-on u h = ap length (on-wire u h) ∙ length-map (order u) (λ n. (n, client_of y.records.items n))
      ∙ sym (k.lined.links.linked.ends u (let w = k.wires in omega arith)).count

  -- all records are tokens or free
  pub tokens-are : tokens_in (lists_of y) + count_of y.lines.items y.wires ≡ length y.records.items
  tokens-are =
      let w = k.wires in
      let free = (k.lined.links.linked.ends y.wires (omega arith)).count in
      let all : sum_below (y.wires + 1) (λ u. length (order u)) ≡ length y.records.items = rw w at k.lined.links.all in
      let last = sum-below-next (λ u. length (order u)) y.wires in
      let same = sum-below-same y.wires (λ u. length (on (lists_of y) u)) (λ u. length (order u))
      (λ u h. ap length (on-wire u h) ∙ length-map (order u) (λ n. (n, client_of y.records.items n))) in
      rw (wires-are y) (omega arith)

  -- no token stands there twice
  pub times-most : (t : ℕ) → times_in (lists_of y) t ≤ 1
  times-most t =
      let most = sum-once y.wires (wire_of y.records.items t) (λ u. count_by (λ e. nat_eq t e.0) (on (lists_of y) u))
      (λ u h. rw (on-wire u h, times-clients (client_of y.records.items) t (order u))
      (k.lined.links.linked.once t u (let w = k.wires in omega arith))) in
      rw (wires-are y) (grind (arith, nat_tests))

  -- ---- who stands where

  -- a number that is not on a line has no client on its wire
  pub lookup-none : (t u : ℕ) → (u < y.wires → times t (order u) ≡ 0) → lookup (nat_eq t) (on (lists_of y) u) ≡ None
  lookup-none t u none =
      elim (cases_lt u y.wires) [
        | inl l ↦ rw (on-wire u l) (lookup-out (client_of y.records.items) t (order u) (none l))
        | inr l ↦ rw (on-beyond y u l) refl
      ]

  -- a record stands on the wire that it names, a free one on none, and what is no record on none
  pub standing-live : (t : ℕ) → t < length y.records.items → wire_of y.records.items t < y.wires
      → standing (lists_of y) t ≡ Some (wire_of y.records.items t, client_of y.records.items t)
  standing-live t h on_wire =
      let w = wire_of y.records.items t in
      let one = k.lined.links.there t h in
      let as_many = k.wires in
      standing-only (length (lists_of y)) (lists_of y) t w (client_of y.records.items t) (omega (arith, wires-are y))
      (rw (on-wire w on_wire) (lookup-in (client_of y.records.items) t (order w) (omega arith)))
      (λ u o. lookup-none t u (λ l. let once = k.lined.links.linked.once t u (omega arith) in grind (arith, nat_tests)))

  pub absent-free : (t : ℕ) → y.wires ≤ wire_of y.records.items t → (u : ℕ)
      → lookup (nat_eq t) (on (lists_of y) u) ≡ None
  absent-free t free u =
      let w = k.wires in
      lookup-none t u (λ l. let once = k.lined.links.linked.once t u (omega arith) in grind (arith, nat_tests))

  pub standing-past : (t : ℕ) → length y.records.items ≤ t → standing (lists_of y) t ≡ None
  standing-past t past =
      let as_many = k.wires in
      standing-none (length (lists_of y)) (lists_of y) t
      (λ u h. lookup-none t u (λ l. grind (arith, k.lined.links.linked.below t u (omega arith))))

  -- a token that stands there is a record that names a wire
  pub live : (t : ℕ) → IsSome (standing (lists_of y) t) → (t < length y.records.items) × (wire_of y.records.items t < y.wires)
  live t stands =
      elim (cases_lt t (length y.records.items)) [
        | inr l ↦ absurd (let none = standing-past t l in let some = rw none at stands in cc)
        | inl l ↦ elim (cases_lt (wire_of y.records.items t) y.wires) [
          | inr f ↦ absurd (let none = standing-none (length (lists_of y)) (lists_of y) t (λ u h. absent-free t f u) in
              let some = rw none at stands in cc)
          | inl f ↦ (l, f)
        ]
      ]

  -- a token that stands there stands where its record says
  pub there-live : (t : ℕ) → IsSome (standing (lists_of y) t)
      → IsThere (lists_of y) t (client_of y.records.items t) (wire_of y.records.items t)
  there-live t stands =
      let (h, on_wire) = live t stands in
      there (lists_of y) t (client_of y.records.items t) (wire_of y.records.items t) (times-most t) (standing-live t h on_wire)
