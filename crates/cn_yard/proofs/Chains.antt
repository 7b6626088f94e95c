-- Lists of numbers that are linked one to the next.
use Rattle.cn_yard.proofs.Common.{◌≡◌, ◌≢◌, ℕ, ◌+◌, ◌≤◌, inl, inr, cond, eqb, List, [], ◌∷◌, ◌++◌, length, refl, sym, ap, ◌∙◌, arith, subst, but, cases_eq, nat_tests, times, times-nil, times-cons, Chain, head_or, last_or, walk}

-- all numbers but the first
abbrev pub tail_of : List ℕ → List ℕ
tail_of [] = []
tail_of (x ∷ xs) = xs

-- ---- all but one

-- a number that is not there is not missed
pub but-out : (t : ℕ) (xs : List ℕ) → times t xs ≡ 0 → but t xs ≡ xs
but-out t [] h = refl
but-out t (x ∷ xs) h = let here = times-cons t x xs in let rest = but-out t xs in grind (arith, nat_tests)

-- how often a number is left
pub times-but : (n t : ℕ) (xs : List ℕ) → times n (but t xs) ≡ cond (eqb n t) 0 (times n xs)
times-but n t [] = let none = times-nil n in grind (arith, nat_tests)
times-but n t (x ∷ xs) = grind (arith, nat_tests, times-cons n x xs, times-cons n x (but t xs), times-but n t xs)

-- how many are left
pub length-but : (t : ℕ) (xs : List ℕ) → length (but t xs) + times t xs ≡ length xs
length-but t [] = let none = times-nil t in grind (arith, nat_tests)
length-but t (x ∷ xs) = grind (arith, nat_tests, times-cons t x xs, length-but t xs)

-- the first is taken
pub but-head : (t : ℕ) (xs : List ℕ) → times t (t ∷ xs) ≤ 1 → but t (t ∷ xs) ≡ xs
but-head t xs one = let here = times-cons t t xs in let rest = but-out t xs in grind (arith, nat_tests)

-- another than the first is taken
pub but-cons : (t x : ℕ) (xs : List ℕ) → x ≢ t → but t (x ∷ xs) ≡ x ∷ but t xs
but-cons t x xs n = grind (arith, nat_tests)

-- ---- the ends

-- the last is one of the list
pub last-in : (x : ℕ) (xs : List ℕ) → 1 ≤ times (last_or x xs) (x ∷ xs)
unfolding last_or
last-in x [] = grind (arith, nat_tests, times-cons x x [])
last-in x (y ∷ ys) = let rest = last-in y ys in omega (arith, times-cons (last_or y ys) x (y ∷ ys))

-- the last is another where the last is not taken
pub last-but : (t d : ℕ) (xs : List ℕ) → last_or d xs ≢ t → last_or d (but t xs) ≡ last_or d xs
unfolding last_or
last-but t d [] n = refl
last-but t d (x ∷ []) n = rw (but-cons t x [] n) refl
last-but t d (x ∷ y ∷ ys) n = grind (arith, nat_tests, last-but t d (y ∷ ys), last-but t x (y ∷ ys))

-- ---- chains

module _ (n p : ℕ → ℕ) where
  -- the number before one that is not the first
  pub prev-in : (t y : ℕ) (ys : List ℕ) → Chain n p (y ∷ ys) → 1 ≤ times t ys → 1 ≤ times (p t) (y ∷ ys)
  unfolding Chain
  prev-in t y [] c h = absurd (omega (arith, times-nil t))
  prev-in t y (z ∷ zs) c h = grind (
    arith,
    nat_tests,
    c.0.1,
    times-cons t z zs,
    times-cons y y (z ∷ zs),
    times-cons (p t) y (z ∷ zs),
    prev-in t z zs c.1,
  )

  -- the number after one that is not the last
  pub next-in : (t d : ℕ) (ys : List ℕ) → Chain n p ys → 1 ≤ times t ys → last_or d ys ≢ t → 1 ≤ times (n t) ys
  unfolding Chain last_or
  next-in t d [] c h o = absurd (omega (arith, times-nil t))
  next-in t d (z ∷ []) c h o = absurd (let more = times-cons t z [] in let none = times-nil t in grind (arith, nat_tests))
  next-in t d (z ∷ w ∷ ws) c h o = grind (
    arith,
    nat_tests,
    c.0.0,
    times-cons t z (w ∷ ws),
    times-cons w w ws,
    times-cons (n t) z (w ∷ ws),
    next-in t z (w ∷ ws) c.1,
  )

  -- a walk from the first meets them all
  pub walk-chain : (d : ℕ) (xs : List ℕ) → Chain n p xs → walk n (length xs) (head_or d xs) ≡ xs
  unfolding Chain walk
  walk-chain d (x ∷ y ∷ ys) c = rw c.0.0 (ap (λ zs. x ∷ zs) (walk-chain d (y ∷ ys) c.1))
  walk-chain d _ c = refl

  -- without the last
  pub chain-but-last : (t d : ℕ) (xs : List ℕ) → Chain n p xs → last_or d xs ≡ t → times t xs ≤ 1 → Chain n p (but t xs)
  unfolding Chain last_or
  chain-but-last t d [] c e one = c
  chain-but-last t d (x ∷ []) c e one = let out : but t (x ∷ []) ≡ [] = grind (arith, nat_tests) in rw out tt
  chain-but-last t d (x ∷ y ∷ []) c e one =
      let a = times-cons t x (y ∷ []) in let b = times-cons t y [] in
      let left : but t (x ∷ y ∷ []) ≡ x ∷ [] = grind (arith, nat_tests) in rw left (tt, tt)
  chain-but-last t d (x ∷ y ∷ z ∷ zs) c e one =
      let here = subst (λ (k : ℕ). 1 ≤ times k (z ∷ zs)) e (last-in z zs) in
      let a = times-cons t x (y ∷ z ∷ zs) in let b = times-cons t y (z ∷ zs) in
      let left : but t (x ∷ y ∷ z ∷ zs) ≡ x ∷ but t (y ∷ z ∷ zs) = grind (arith, nat_tests) in
      let left' : but t (y ∷ z ∷ zs) ≡ y ∷ but t (z ∷ zs) = grind (arith, nat_tests) in
      let rest = chain-but-last t x (y ∷ z ∷ zs) c.1 e (omega arith) in
      rw (left, left') (c.0, rw left' at rest)

  -- the last that is left
  pub last-left : (t y : ℕ) (ys : List ℕ) → Chain n p (y ∷ ys) → 1 ≤ length ys → last_or y ys ≡ t → times t ys ≤ 1
      → last_or y (but t ys) ≡ p t
  unfolding Chain last_or
  last-left t y [] c h e one = absurd (omega arith)
  last-left t y (z ∷ []) c h e one = let gone : but t (z ∷ []) ≡ [] = grind (arith, nat_tests) in
      rw gone (sym c.0.1 ∙ ap p e)
  last-left t y (z ∷ w ∷ ws) c h e one =
      let here = subst (λ (k : ℕ). 1 ≤ times k (w ∷ ws)) e (last-in w ws) in
      let a = times-cons t z (w ∷ ws) in
      let left : but t (z ∷ w ∷ ws) ≡ z ∷ but t (w ∷ ws) = grind (arith, nat_tests) in
      rw left (last-left t z (w ∷ ws) c.1 (omega arith) e (omega arith))

-- links that agree on a list
pub chain-same : (n p n' p' : ℕ → ℕ) (xs : List ℕ) → Chain n p xs → ((x : ℕ) → 1 ≤ times x xs → n' x ≡ n x)
    → ((x : ℕ) → 1 ≤ times x (tail_of xs) → p' x ≡ p x) → Chain n' p' xs
unfolding Chain
chain-same n p n' p' [] c a b = tt
chain-same n p n' p' (x ∷ []) c a b = (tt, tt)
chain-same n p n' p' (x ∷ y ∷ ys) c a b = (
  (a x (grind (arith, nat_tests, times-cons x x)) ∙ c.0.0, b y (grind (arith, nat_tests, times-cons y y)) ∙ c.0.1),
  chain-same n p n' p' (y ∷ ys) c.1 (λ z h. a z (omega (arith, times-cons z x (y ∷ ys))))
      (λ z h. b z (omega (arith, times-cons z y ys))),
)

-- one between its neighbours is taken out
pub chain-but : (n p n' p' : ℕ → ℕ) (t x : ℕ) (xs : List ℕ) → Chain n p (x ∷ xs) → 1 ≤ times t xs → last_or x xs ≢ t
    → ((z : ℕ) → times z (x ∷ xs) ≤ 1)
    → ((z : ℕ) → n' z ≡ cond (eqb z (p t)) (n t) (n z)) → ((z : ℕ) → p' z ≡ cond (eqb z (n t)) (p t) (p z))
    → Chain n' p' (x ∷ but t xs)
unfolding Chain last_or
chain-but n p n' p' t x [] c h o one a b = absurd (omega (arith, times-nil t))
chain-but n p n' p' t x (y ∷ []) c h o one a b = absurd (let e = times-cons t y [] in let none = times-nil t in grind (arith, nat_tests))
chain-but n p n' p' t x (y ∷ w ∷ ws) c h o one a b =
    elim (cases_eq y t) [
      | inl e ↦
          let back : p t ≡ x = ap p (sym e) ∙ c.0.1 in
          let forth : n t ≡ w = ap n (sym e) ∙ c.1.0.0 in
          let all : (z : ℕ) → times z (x ∷ y ∷ w ∷ ws) ≡ cond (eqb x z) 1 0 + (cond (eqb y z) 1 0 + times z (w ∷ ws)) =
          λ z. omega (arith, times-cons z x (y ∷ w ∷ ws), times-cons z y (w ∷ ws)) in
          let left : but t (y ∷ w ∷ ws) ≡ w ∷ ws = let k = all t in let m = one t in let out = but-out t (w ∷ ws) in
          grind (arith, nat_tests) in
          rw left (
            (let k = a x in grind (arith, nat_tests), let k = b w in grind (arith, nat_tests)),
            chain-same n p n' p' (w ∷ ws) c.1.1 (λ z l. grind (arith, nat_tests, a z, one z, all z))
                (λ z l. grind (arith, nat_tests, b z, one z, all z, times-cons z w ws)),
          )
      | inr d ↦
          let more = times-cons t y (w ∷ ws) in
          let there : 1 ≤ times t (w ∷ ws) = grind (arith, nat_tests) in
          let back = prev-in n p t y (w ∷ ws) c.1 there in
          let forth = next-in n p t y (w ∷ ws) c.1.1 there o in
          rw (but-cons t y (w ∷ ws) d) (
            (
              grind (arith, nat_tests, a x, one x, times-cons x x (y ∷ w ∷ ws)),
              grind (arith, nat_tests, b y, one y, times-cons y x (y ∷ w ∷ ws), times-cons y y (w ∷ ws)),
            ),
            chain-but n p n' p' t y (w ∷ ws) c.1 there o (λ z. omega (arith, one z, times-cons z x (y ∷ w ∷ ws))) a b,
          )
    ]

-- one more comes last
pub chain-push : (n p n' p' : ℕ → ℕ) (t x : ℕ) (xs : List ℕ) → Chain n p (x ∷ xs) → times t (x ∷ xs) ≡ 0
    → ((z : ℕ) → times z (x ∷ xs) ≤ 1)
    → ((z : ℕ) → n' z ≡ cond (eqb z (last_or x xs)) t (n z)) → ((z : ℕ) → p' z ≡ cond (eqb z t) (last_or x xs) (p z))
    → Chain n' p' (x ∷ xs ++ t ∷ [])
unfolding Chain last_or
chain-push n p n' p' t x [] c h one a b =
    ((let k = a x in grind (arith, nat_tests), let k = b t in grind (arith, nat_tests)), (tt, tt))
chain-push n p n' p' t x (y ∷ ys) c h one a b =
    let last = last-in y ys in
    let s = times-cons t x (y ∷ ys) in
    let r = times-cons t y ys in (
      (
        let k = a x in let m = one x in let q = times-cons x x (y ∷ ys) in grind (arith, nat_tests),
        let k = b y in grind (arith, nat_tests),
      ),
      chain-push n p n' p' t y ys c.1 (omega arith) (λ z. let m = one z in omega (arith, times-cons z x (y ∷ ys))) a b,
    )

-- and it is the last then
pub last-push : (t d : ℕ) (xs : List ℕ) → last_or d (xs ++ t ∷ []) ≡ t
unfolding last_or
last-push t d [] = refl
last-push t d (x ∷ xs) = last-push t x xs
