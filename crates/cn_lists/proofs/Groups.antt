-- The tokens of a list's clients who stand together, and of every second of them.
use Rattle.std.specs.List.{range_with_len}
use Rattle.std.proofs.lemmas.List.Sorted.{IsPermutation-refl}
use Rattle.cn_lists.proofs.Common.{◌≡◌, ℕ, zero, suc, ◌+◌, ◌-◌, ◌*◌, ◌/◌, ◌<◌, ◌≤◌, List, [], ◌∷◌, ◌++◌, sum_by, length, refl, ap, ◌∙◌, arith, slice_index, mul-le-mul_left, sum_by-cons, every_second, placed, map, count_by, ◌==◌, sym, ext_get_or, get_or-map-range_with_len, length-map-range_with_len, times, times-map, once_each, at_most_once}

-- ---- parties

-- those at every second place stand at places twice as far apart
mutual
  unfolding placed every_second

  pub placed-even : (clients : List ℕ) (first gap n : ℕ)
      → every_second 0 (placed clients first gap n) ≡ placed clients first (2 * gap) (n - n / 2)
  placed-even clients first gap zero = refl
  placed-even clients first gap (suc n) =
      let many : suc n - suc n / 2 ≡ suc (n / 2) = omega arith in
      let to : first + gap + gap ≡ first + 2 * gap = omega arith in
      rw many (ap (λ (es : List (ℕ × ℕ)). (first, slice_index clients first) ∷ es)
      (placed-odd clients (first + gap) gap n ∙ ap (λ (k : ℕ). placed clients k (2 * gap) (n / 2)) to))

  pub placed-odd : (clients : List ℕ) (first gap n : ℕ)
      → every_second 1 (placed clients first gap n) ≡ placed clients (first + gap) (2 * gap) (n / 2)
  placed-odd clients first gap zero = refl
  placed-odd clients first gap (suc n) =
      let many : suc n / 2 ≡ n - n / 2 = omega arith in
      rw many (placed-even clients (first + gap) gap n)

pub placed-many : (clients : List ℕ) (first gap n : ℕ) → length (placed clients first gap n) ≡ n
unfolding placed
placed-many clients first gap zero = refl
placed-many clients first gap (suc n) = ap suc (placed-many clients (first + gap) gap n)

-- one more at the end
pub placed-more : (clients : List ℕ) (first gap n : ℕ)
    → placed clients first gap (suc n) ≡ placed clients first gap n ++ (first + gap * n, slice_index clients (first + gap * n))
    ∷ []
unfolding placed
placed-more clients first gap zero =
    let at : first ≡ first + gap * 0 = omega arith in
    ap (λ (k : ℕ). (k, slice_index clients k) ∷ []) at
placed-more clients first gap (suc n) =
    let at : first + gap + gap * n ≡ first + gap * suc n = omega arith in
    ap (λ (es : List (ℕ × ℕ)). (first, slice_index clients first) ∷ es)
    (placed-more clients (first + gap) gap n
    ∙ ap (λ (k : ℕ). placed clients (first + gap) gap n ++ (k, slice_index clients k) ∷ []) at)

-- the places, and the clients, of those who stand at each place
pub all-places : (clients : List ℕ) (first n : ℕ) → map (λ e. e.0) (placed clients first 1 n) ≡ range_with_len first n
unfolding placed
all-places clients first zero = refl
all-places clients first (suc n) = ap (λ (ks : List ℕ). first ∷ ks) (all-places clients (first + 1) n)

pub placed-clients : (clients : List ℕ) (first n : ℕ)
    → map (λ (e : ℕ × ℕ). e.1) (placed clients first 1 n) ≡ map (λ k. slice_index clients k) (range_with_len first n)
unfolding placed
placed-clients clients first zero = refl
placed-clients clients first (suc n) = λ i. slice_index clients first ∷ placed-clients clients (first + 1) n i

pub read-all : (xs : List ℕ) (n : ℕ) → length xs ≡ n → map (λ k. slice_index xs k) (range_with_len 0 n) ≡ xs
read-all xs n long =
    let at : ℕ → ℕ = λ k. slice_index xs k in
    let many = length-map-range_with_len at 0 n in
    ext_get_or 0 (map at (range_with_len 0 n)) xs (many ∙ sym long)
    (λ i low. get_or-map-range_with_len at 0 n i i 0 (omega (arith, low, many)) (omega arith))

-- each place is one of a list's at most once
pub placed-times : (clients : List ℕ) (n k : ℕ)
    → count_by (λ e. e.0 == k) (placed clients 0 1 n) ≡ times k (range_with_len 0 n)
placed-times clients n k =
    sym (times-map (λ (e : ℕ × ℕ). e.0) k (placed clients 0 1 n)) ∙ ap (times k) (all-places clients 0 n)

pub placed-once : (clients : List ℕ) (n k : ℕ) → count_by (λ e. e.0 == k) (placed clients 0 1 n) ≤ 1
placed-once clients n k =
    let range = range_with_len 0 n in
    omega (arith, placed-times clients n k, once_each n range (IsPermutation-refl range) k, at_most_once n k)

-- a part of a party stands in the list
pub within-part : (x s k m long : ℕ) → 2 * k ≤ m → x + s * m < long → x + 2 * s * k < long
within-part x s k m long less is = omega (arith, is, mul-le-mul_left s less)

-- ---- every second of tokens, and the others, are all of them

sum-both : (f : ℕ × ℕ → ℕ) (es : List (ℕ × ℕ)) → sum_by f (every_second 0 es) + sum_by f (every_second 1 es) ≡ sum_by f es
unfolding every_second
sum-both f [] = refl
sum-both f (e ∷ rest) = omega (arith, sum-both f rest, sum_by-cons f e (every_second 1 rest), sum_by-cons f e rest)

halves : (es : List (ℕ × ℕ)) → (length (every_second 0 es) ≡ length es - length es / 2) × (length (every_second 1 es) ≡ length es / 2)
unfolding every_second
halves [] = (refl, refl)
halves (e ∷ rest) = let later = halves rest in (omega (arith, later.0, later.1), omega (arith, later.0, later.1))

pub sum-dealt : (f : ℕ × ℕ → ℕ) (q : ℕ) (es : List (ℕ × ℕ)) → q < 2
    → sum_by f (every_second q es) + sum_by f (every_second (1 - q) es) ≡ sum_by f es
sum-dealt f zero es low = sum-both f es
sum-dealt f (suc zero) es low = omega (arith, sum-both f es)
sum-dealt f (suc (suc q)) es low = absurd (omega (arith, low))

-- how many go on by each output of a balancer
pub length-dealt : (q : ℕ) (es : List (ℕ × ℕ)) → q < 2
    → (length (every_second q es) ≡ length es - (length es + q) / 2) × (length (every_second (1 - q) es) ≡ (length es + q) / 2)
length-dealt zero es low = let (even, odd) = halves es in (omega (arith, even), omega (arith, odd))
length-dealt (suc zero) es low = let (even, odd) = halves es in (omega (arith, odd), omega (arith, even))
length-dealt (suc (suc q)) es low = absurd (omega (arith, low))
