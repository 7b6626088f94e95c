-- All views, where one of them changes: what holds of each, and their sums.
use Rattle.cn_floor.proofs.Common.{◌≡◌, ℕ, zero, suc, ◌+◌, ◌≤◌, List, [], ◌∷◌, ◌++◌, set, sum_by, subst, sym, refl, ap, arith, ⊎_elim, at_set, at_snoc, get_elem?, some, sum_by-cons, some-injective, some-ne-none}

module _ {X : Type 0} where
  pub get-here : (xs : List X) (i : ℕ) (x y : X) → get_elem? xs i ≡ some x → get_elem? (set xs i y) i ≡ some y
  get-here [] i x y e = absurd (some-ne-none x (sym e))
  get-here (z ∷ xs) zero x y e = refl
  get-here (z ∷ xs) (suc i) x y e = get-here xs i x y e

  -- each has a property
  abbrev pub Each : (X → Type 0) → List X → Type 0
  Each P xs = (i : ℕ) (x : X) → get_elem? xs i ≡ some x → P x

  pub each-set : (P : X → Type 0) (xs : List X) (i : ℕ) (w : X) → Each P xs → P w → Each P (set xs i w)
  each-set P xs i w all here j x at = ⊎_elim (λ y. subst P y.1 here) (λ y. all j x y.1) (at_set xs i j w x at)

  pub each-snoc : (P : X → Type 0) (xs : List X) (w : X) → Each P xs → P w → Each P (xs ++ w ∷ [])
  each-snoc P xs w all last j x at = ⊎_elim (λ y. all j x y) (λ y. subst P y last) (at_snoc xs w x j at)

  pub each-one : (P : X → Type 0) (w : X) → P w → Each P (w ∷ [])
  each-one P w = each-snoc P [] w (λ i x e. absurd (some-ne-none x (sym e)))

  -- the total where one view changes
  pub total-set : (f : X → ℕ) (xs : List X) (i : ℕ) (v w : X) → get_elem? xs i ≡ some v → sum_by f (set xs i w) + f v ≡ sum_by f xs + f w
  total-set f [] i v w e = absurd (some-ne-none v (sym e))
  total-set f (x ∷ xs) zero v w e = let is : f x ≡ f v = ap f (some-injective x v e) in
      omega (arith, sum_by-cons f x xs, sum_by-cons f w xs)
  total-set f (x ∷ xs) (suc i) v w e = omega (arith, total-set f xs i v w e, sum_by-cons f x xs, sum_by-cons f x (set xs i w))

  -- one view is a part of the total
  pub part-le : (f : X → ℕ) (xs : List X) (i : ℕ) (v : X) → get_elem? xs i ≡ some v → f v ≤ sum_by f xs
  part-le f [] i v e = absurd (some-ne-none v (sym e))
  part-le f (x ∷ xs) zero v e = let is : f x ≡ f v = ap f (some-injective x v e) in omega (arith, sum_by-cons f x xs)
  part-le f (x ∷ xs) (suc i) v e = omega (arith, part-le f xs i v e, sum_by-cons f x xs)

  -- a total of lesser parts
  pub total-le : (f g : X → ℕ) (xs : List X) → Each (λ v. f v ≤ g v) xs → sum_by f xs ≤ sum_by g xs
  total-le f g [] h = omega arith
  total-le f g (x ∷ xs) h = let first : f x ≤ g x = h 0 x refl in
      omega (arith, total-le f g xs (λ i v e. h (suc i) v e), sum_by-cons f x xs, sum_by-cons g x xs)

  -- a total of the same parts
  pub total_same : (f g : X → ℕ) (xs : List X) → Each (λ v. f v ≡ g v) xs → sum_by f xs ≡ sum_by g xs
  total_same f g [] h = refl
  total_same f g (x ∷ xs) h = let first : f x ≡ g x = h 0 x refl in
      omega (arith, total_same f g xs (λ i v e. h (suc i) v e), sum_by-cons f x xs, sum_by-cons g x xs)

  -- where one part is the whole of one total, and no other total has a part where this has none, it is the whole of the other
  pub mine-only : (f g : X → ℕ) (xs : List X) (i : ℕ) (v : X) → get_elem? xs i ≡ some v
      → ((j : ℕ) (x : X) → get_elem? xs j ≡ some x → g x ≡ 0 → f x ≡ 0) → sum_by g xs ≡ g v → sum_by f xs ≡ f v
  mine-only f g [] i v at h e = absurd (some-ne-none v (sym at))
  mine-only f g (x ∷ xs) zero v at h e =
      let is : x ≡ v = some-injective x v at in let fs : f x ≡ f v = ap f is in let gs : g x ≡ g v = ap g is in
      let none : sum_by g xs ≡ 0 = omega (arith, sum_by-cons g x xs) in
      let rest = none_left xs (λ j y a. h (suc j) y a) none in
      omega (arith, sum_by-cons f x xs)
    where
      none_left : (ys : List X) → ((j : ℕ) (y : X) → get_elem? ys j ≡ some y → g y ≡ 0 → f y ≡ 0) → sum_by g ys ≡ 0 → sum_by f ys ≡ 0
      none_left [] h e = refl
      none_left (y ∷ ys) h e =
          let first = h 0 y refl (omega (arith, sum_by-cons g y ys)) in
          omega (arith, none_left ys (λ j z a. h (suc j) z a) (omega (arith, sum_by-cons g y ys)), sum_by-cons f y ys)
  mine-only f g (x ∷ xs) (suc i) v at h e =
      let part = part-le g xs i v at in
      let none : g x ≡ 0 = omega (arith, sum_by-cons g x xs) in
      omega (
        arith,
        h 0 x refl none,
        sum_by-cons f x xs,
        mine-only f g xs i v at (λ j y a. h (suc j) y a) (omega (arith, sum_by-cons g x xs)),
      )
