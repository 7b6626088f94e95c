-- How often a number stands in a list, and lists in which each number below m stands once.
use Rattle.cn_spec.proofs.Common.{◌≡◌, ℕ, zero, suc, ◌+◌, ◌<◌, ◌≤◌, ◌⊎◌, inl, inr, cond, eqb, List, [], ◌∷◌, ◌++◌, All, length, get_or, map, refl, sym, ap, ◌∙◌, subst, arith, count_by, range_with_len, sum_by, IsPermutation, cases_eq, eq-eqb, ne_eqb, IsPermutation-cons, IsPermutation-middle, IsPermutation-refl, IsPermutation-sym, IsPermutation-trans, sum_by-IsPermutation, sum_by-cons, sum_below, times, when, subst₂, append_assoc, lt-ltb, le-ltb, nat_tests, IsPermutation-append_left, IsPermutation-append_right, IsPermutation-append_comm, IsEachBelow, IsOnceBelow, once_below, length-append}
use Rattle.cn_spec.proofs.Sums.{sum-below-one, sum-below-plus, sum-below-same, sum-below-zero}
use Rattle.cn_spec.proofs.Names.{range_next}

pub times-nil : (w : ℕ) → times w [] ≡ 0
unfolding times
times-nil w = refl

pub times-cons : (n x : ℕ) (xs : List ℕ) → times n (x ∷ xs) ≡ cond (eqb x n) 1 0 + times n xs
unfolding times
times-cons n x xs = refl

pub times-append : (w : ℕ) (xs ys : List ℕ) → times w (xs ++ ys) ≡ times w xs + times w ys
unfolding times
times-append w [] ys = omega arith
times-append w (x ∷ xs) ys = omega (arith, times-append w xs ys)

-- in a list of what something makes of members
pub times-map : {X : Type 0} (f : X → ℕ) (w : ℕ) (xs : List X) → times w (map f xs) ≡ count_by (λ x. eqb (f x) w) xs
unfolding times
times-map f w [] = refl
times-map f w (x ∷ xs) = omega (arith, times-map f w xs, sum_by-cons (λ y. cond (eqb (f y) w) 1 0) x xs)

-- ---- members and their places

pub times-member : (xs : List ℕ) (i : ℕ) → i < length xs → 1 ≤ times (get_or xs i 0) xs
unfolding times
times-member [] i h = elim h [ ]
times-member (x ∷ xs) zero h = rw (eq-eqb x x refl) (omega arith)
times-member (x ∷ xs) (suc i) h = omega (arith, times-member xs i (omega arith))

-- two places with one member
pub times-two : (xs : List ℕ) (i j : ℕ) → i < j → j < length xs → get_or xs i 0 ≡ get_or xs j 0 → 2 ≤ times (get_or xs j 0) xs
unfolding times
times-two (x ∷ xs) zero (suc j) h k e = rw (eq-eqb x (get_or xs j 0) e) (omega (arith, times-member xs j (omega arith)))
times-two (x ∷ xs) (suc i) (suc j) h k e = omega (arith, times-two xs i j (omega arith) (omega arith) e)
times-two _ i _ h k e = absurd (omega arith)

-- a member has a place
pub times-place : (xs : List ℕ) (w : ℕ) → 1 ≤ times w xs → (i : ℕ) × (i < length xs) × (get_or xs i 0 ≡ w)
unfolding times
times-place [] w h = absurd (omega arith)
times-place (x ∷ xs) w h =
    elim (cases_eq x w) [
      | inl e ↦ (0, omega arith, e)
      | inr d ↦ let r = times-place xs w (let k = rw (ne_eqb x w d) at h in omega arith) in (suc r.0, omega (arith, r.1), r.2)
    ]

-- a member parts the list
pub times-parts : (n : ℕ) (xs : List ℕ) → 1 ≤ times n xs → (front : List ℕ) × (back : List ℕ) × (xs ≡ front ++ n ∷ back)
times-parts n [] h = absurd (omega (arith, times-nil n))
times-parts n (x ∷ xs) h =
    elim (cases_eq x n) [
      | inl e ↦ ([], xs, ap (λ k. k ∷ xs) e)
      | inr d ↦
          let (front, back, e) = times-parts n xs (let k = rw (times-cons n x xs, ne_eqb x n d) at h in omega arith) in
          (x ∷ front, back, ap (λ r. x ∷ r) e)
    ]

-- ---- orders of a list

-- in an order of a list each number stands as often
pub times-order : (xs ys : List ℕ) (n : ℕ) → IsPermutation xs ys → times n ys ≡ times n xs
times-order xs ys n order = sum ys ∙ sum_by-IsPermutation (λ x. cond (eqb x n) 1 0) xs ys order ∙ sym (sum xs)
  where
    sum : (zs : List ℕ) → times n zs ≡ sum_by (λ x. cond (eqb x n) 1 0) zs
    sum [] = times-nil n
    sum (z ∷ zs) = omega (arith, times-cons n z zs, sum zs, sum_by-cons (λ x. cond (eqb x n) 1 0) z zs)

-- and lists in which each number stands as often are orders of one another
pub order-times : (xs ys : List ℕ) → ((n : ℕ) → times n xs ≡ times n ys) → IsPermutation xs ys
order-times [] [] same = IsPermutation-refl []
order-times [] (y ∷ ys) same =
    let here : 1 ≤ times y (y ∷ ys) = times-member (y ∷ ys) 0 (omega arith) in
    absurd (omega (arith, same y, times-nil y, here))
order-times (x ∷ xs) ys same =
    let here : 1 ≤ times x (x ∷ xs) = times-member (x ∷ xs) 0 (omega arith) in
    let (front, back, e) = times-parts x ys (omega (arith, same x, here)) in
    let rest = order-times xs (front ++ back) (λ n.
    let whole : times n ys ≡ times n (front ++ x ∷ back) = ap (times n) e in
    omega (arith, same n, whole, times-cons n x xs, times-append n front (x ∷ back), times-cons n x back, times-append n front back)) in
    let first = IsPermutation-cons x xs (front ++ back) rest in
    let moved = IsPermutation-sym (front ++ x ∷ back) (x ∷ (front ++ back)) (IsPermutation-middle front x back) in
    subst (IsPermutation (x ∷ xs)) (sym e) (IsPermutation-trans _ _ _ first moved)

-- ---- ranges

-- a number stands in a range once or not at all
pub times-outside : (w a n : ℕ) → (w < a) ⊎ (a + n ≤ w) → times w (range_with_len a n) ≡ 0
unfolding times
times-outside w a zero h = refl
times-outside w a (suc n) h = rw (ne_eqb a w (λ e. grind arith)) (omega (arith, times-outside w (a + 1) n (grind arith)))

pub times-inside : (w a n : ℕ) → a ≤ w → w < a + n → times w (range_with_len a n) ≡ 1
unfolding times
times-inside w a zero l h = absurd (omega arith)
times-inside w a (suc n) l h =
    elim (cases_eq a w) [
      | inl e ↦ rw (eq-eqb a w e) (omega (arith, times-outside w (a + 1) n (inl (omega arith))))
      | inr d ↦ rw (ne_eqb a w d) (omega (arith, times-inside w (a + 1) n (omega arith) (omega arith)))
    ]

-- members below n, counted by what they are
pub times-below : (n : ℕ) (es : List ℕ) → All (λ (u : ℕ). u < n) es → sum_below n (λ u. times u es) ≡ length es
unfolding times
times-below n [] all = sum-below-zero n (λ _. 0) (λ _. refl)
times-below n (e ∷ es) all =
    let one = sum-below-one n e 1 (all 0 0 (omega arith)) in
    let rest = times-below n es (λ k d less. all (suc k) d (omega arith)) in
    let swap = sum-below-same n (λ u. when (eqb e u) 1 + times u es) (λ u. when (eqb e u) 1 + times u es) (λ u l. refl) in
    omega (arith, sum-below-plus n (λ u. when (eqb e u) 1) (λ u. times u es))

-- A list in which each number below m stands once is an order of those numbers.

-- one number more
pub once-next : (m n : ℕ) → once_below (suc m) n ≡ once_below m n + cond (eqb m n) 1 0
once-next m n = grind (arith, nat_tests)

-- the greatest number put in anywhere
pub each_more : (m : ℕ) (xs front back : List ℕ) → xs ≡ front ++ m ∷ back → IsEachBelow m (front ++ back) → IsEachBelow (suc m) xs
each_more m xs front back e rest =
    let a : IsPermutation (range_with_len 0 m ++ m ∷ []) ((front ++ back) ++ m ∷ []) =
    IsPermutation-append_left (m ∷ []) (range_with_len 0 m) (front ++ back) rest in
    let b : IsPermutation (front ++ (back ++ m ∷ [])) (front ++ m ∷ back) =
    IsPermutation-append_right front (back ++ m ∷ []) (m ∷ back) (IsPermutation-append_comm back (m ∷ [])) in
    let c : IsPermutation ((front ++ back) ++ m ∷ []) (front ++ m ∷ back) =
    subst (λ ys. IsPermutation ys (front ++ m ∷ back)) (sym (append_assoc front back (m ∷ []))) b in
    subst₂ IsPermutation (sym (range_next m)) (sym e) (IsPermutation-trans _ _ _ a c)

pub each_below : (m : ℕ) (xs : List ℕ) → IsOnceBelow m xs → IsEachBelow m xs
each_below zero [] once = IsPermutation-refl []
each_below zero (x ∷ xs) once =
    let one : ◌≡◌ {A = ℕ} (cond (eqb x x) 1 0) 1 = ap {B = ℕ} (λ q. cond q 1 0) (eq-eqb x x refl) in
    let none : once_below 0 x ≡ 0 = ap {B = ℕ} (λ q. cond q 1 0) (le-ltb x 0 (omega arith)) in
    absurd (omega (arith, times-cons x x xs, once x))
each_below (suc m) xs once =
    let there : once_below (suc m) m ≡ 1 = ap {B = ℕ} (λ q. cond q 1 0) (lt-ltb m (suc m) (omega arith)) in
    let (front, back, e) = times-parts m xs (omega (arith, once m)) in
    let rest = each_below m (front ++ back) (λ n.
    let whole : times n xs ≡ times n (front ++ m ∷ back) = ap (times n) e in
    omega (arith, once n, once-next m n, times-append n front (m ∷ back), times-cons n m back, times-append n front back)) in
    each_more m xs front back e rest

-- A list of m numbers in which each number below m stands is an order of those numbers, and in an order of them each
-- stands once.

pub all_below : (m : ℕ) (xs : List ℕ) → length xs ≡ m → ((n : ℕ) → n < m → 1 ≤ times n xs) → IsEachBelow m xs
all_below zero [] size there = IsPermutation-refl []
all_below zero (x ∷ xs) size there = absurd (omega (arith, size))
all_below (suc m) xs size there =
    let (front, back, e) = times-parts m xs (there m (omega arith)) in
    let long : length xs ≡ length front + (length back + 1) = ap length e ∙ length-append front (m ∷ back) ∙ omega arith in
    each_more m xs front back e (all_below m (front ++ back) (omega (arith, size, long, length-append front back)) (λ n h.
    let whole : times n xs ≡ times n (front ++ m ∷ back) = ap (times n) e in
    let other : ◌≡◌ {A = ℕ} (cond (eqb m n) 1 0) 0 = ap {B = ℕ} (λ q. cond q 1 0) (ne_eqb m n (λ x. omega (arith, x, h))) in
    omega (
      arith,
      there n (omega (arith, h)),
      whole,
      other,
      times-append n front (m ∷ back),
      times-cons n m back,
      times-append n front back,
    )))

once-range : (m n : ℕ) → times n (range_with_len 0 m) ≡ once_below m n
once-range zero n = times-nil n ∙ grind (arith, nat_tests)
once-range (suc m) n =
    let list : times n (range_with_len 0 (suc m)) ≡ times n (range_with_len 0 m ++ m ∷ []) = ap (times n) (range_next m) in
    omega (arith, list, once-range m n, once-next m n, times-append n (range_with_len 0 m) (m ∷ []), times-cons n m [], times-nil n)

pub once_each : (m : ℕ) (xs : List ℕ) → IsEachBelow m xs → IsOnceBelow m xs
once_each m xs each n = times-order (range_with_len 0 m) xs n each ∙ once-range m n

pub at_most_once : (m n : ℕ) → once_below m n ≤ 1
at_most_once m n = grind (arith, nat_tests)

pub once-there : (m n : ℕ) → n < m → once_below m n ≡ 1
once-there m n h = grind (arith, nat_tests)

pub once-in : (m n : ℕ) → 1 ≤ once_below m n → n < m
once-in m n h = grind (arith, nat_tests)
