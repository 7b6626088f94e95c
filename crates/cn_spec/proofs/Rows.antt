-- Rows and their parts, by pairs of neighbours: even and odd entries, cochains; layers, and rows put together.
use Rattle.cn_spec.proofs.Common.{not, ◌≡◌, ℕ, zero, suc, ◌+◌, ◌*◌, ◌/◌, ◌<◌, List, [], ◌∷◌, length, get_or, refl, sym, ap, ◌∙◌, arith, fill_by_all, sum_by-cons, sum, IsStep, evens, odds, interleave, ◌++◌, half, layer, ◌-◌, ◌^◌, take, drop, length-drop, length-take-le, pow-suc, pow-succ', pow_below, pow_pos, sum_by-take-drop, IsRow, ◌%◌, Bool, true, false, a_cochain, b_cochain, ◌≤◌, cond, cases_Bool}

-- The even and the odd subsequence by pairs of neighbours.

-- of each pair of neighbours the first, or the second
abbrev pub part : Bool → List ℕ → List ℕ
part second (a ∷ b ∷ x) = cond second b a ∷ part second x
part p _ = []

-- ---- places

pub length-part : (p : Bool) (x : List ℕ) → length (part p x) ≡ length x / 2
length-part p (a ∷ b ∷ x) = omega (arith, length-part p x)
length-part p _ = refl

pub get-or-part : (p : Bool) (x : List ℕ) (i : ℕ) → i < length x / 2
    → get_or (part p x) i 0 ≡ get_or x (2 * i + cond p 1 0) 0
get-or-part false (a ∷ b ∷ x) zero h = refl
get-or-part true (a ∷ b ∷ x) zero h = refl
get-or-part p (a ∷ b ∷ x) (suc i) h = let k : 2 * suc i + cond p 1 0 ≡ suc (suc (2 * i + cond p 1 0)) = omega arith in
    rw k (get-or-part p x i (omega arith))
get-or-part _ _ i h = absurd (omega arith)

pub evens-firsts : (x : List ℕ) → evens x ≡ part false x
evens-firsts x = sym (fill_by_all (λ j. get_or x (2 * j) 0) (part false x) (length x / 2) 0 (length-part false x)
    (λ i h. get-or-part false x i h ∙ ap (λ n. get_or x n 0) (omega arith)))

pub odds-seconds : (x : List ℕ) → odds x ≡ part true x
odds-seconds x = sym (fill_by_all (λ j. get_or x (2 * j + 1) 0) (part true x) (length x / 2) 0 (length-part true x)
    (get-or-part true x))

pub same-part : (p : Bool) (x y : List ℕ) → length x ≡ length y → length (part p x) ≡ length (part p y)
same-part p x y e = length-part p x ∙ ap (λ n. n / 2) e ∙ sym (length-part p y)

-- ---- of rows put together

pub firsts-interleave : (x y : List ℕ) → length x ≡ length y → part false (interleave x y) ≡ x
firsts-interleave [] y e = refl
firsts-interleave (a ∷ x) [] e = absurd (omega arith)
firsts-interleave (a ∷ x) (b ∷ y) e = ap (λ r. a ∷ r) (firsts-interleave x y (omega arith))

pub seconds-interleave : (x y : List ℕ) → length x ≡ length y → part true (interleave x y) ≡ y
seconds-interleave [] [] e = refl
seconds-interleave (a ∷ x) (b ∷ y) e = ap (λ r. b ∷ r) (seconds-interleave x y (omega arith))
seconds-interleave _ _ e = absurd (omega arith)

-- ---- sums

pub sum-firsts-seconds : (n : ℕ) (x : List ℕ) → length x ≡ n * 2 → sum (part false x) + sum (part true x) ≡ sum x
sum-firsts-seconds n [] e = refl
sum-firsts-seconds (suc n) (a ∷ b ∷ x) e =
    omega (
      arith,
      sum-firsts-seconds n x (omega arith),
      sum_by-cons (λ (y : ℕ). y) a (part false x),
      sum_by-cons (λ (y : ℕ). y) b (part true x),
      sum_by-cons (λ (y : ℕ). y) a (b ∷ x),
      sum_by-cons (λ (y : ℕ). y) b x,
    )
sum-firsts-seconds _ _ e = absurd (omega arith)

-- ---- they keep the step property

pub part-is_step : (p : Bool) (x : List ℕ) → IsStep x → IsStep (part p x)
part-is_step p x s =
    let q : ℕ = cond p 1 0 in
    let low : q < 2 = grind (arith, cases_Bool p) in record {
      no_less = λ i j m h. let k : j < length x / 2 = omega (arith, length-part p x) in
          rw (get-or-part p x i (omega arith), get-or-part p x j k)
          (s.no_less (2 * i + q) (2 * j + q) (omega arith) (omega arith));
      at_most_one_more = λ i j m h. let k : j < length x / 2 = omega (arith, length-part p x) in
          rw (get-or-part p x i (omega arith), get-or-part p x j k)
          (s.at_most_one_more (2 * i + q) (2 * j + q) (omega arith) (omega arith));
    }

-- A layer of balancers.

pub length-layer : (x y : List ℕ) → length x ≡ length y → length (layer x y) ≡ length x * 2
length-layer [] y e = refl
length-layer (a ∷ x) [] e = absurd (omega arith)
length-layer (a ∷ x) (b ∷ y) e = omega (arith, length-layer x y (omega arith))

pub sum-layer : (x y : List ℕ) → length x ≡ length y → sum (layer x y) ≡ sum x + sum y
sum-layer [] [] e = refl
sum-layer (a ∷ x) (b ∷ y) e =
    omega (
      arith,
      sum-layer x y (omega arith),
      sum_by-cons (λ (y : ℕ). y) (half (a + b) 0) (half (a + b) 1 ∷ layer x y),
      sum_by-cons (λ (y : ℕ). y) (half (a + b) 1) (layer x y),
      sum_by-cons (λ (y : ℕ). y) a x,
      sum_by-cons (λ (y : ℕ). y) b y,
    )
sum-layer _ _ e = absurd (omega arith)

-- one more balancer
pub layer-push : (x y : List ℕ) (a b : ℕ) → length x ≡ length y
    → layer (x ++ a ∷ []) (y ++ b ∷ []) ≡ layer x y ++ half (a + b) 0 ∷ half (a + b) 1 ∷ []
layer-push [] [] a b e = refl
layer-push (c ∷ x) (d ∷ y) a b e = ap (λ r. half (c + d) 0 ∷ half (c + d) 1 ∷ r) (layer-push x y a b (omega arith))
layer-push _ _ a b e = absurd (omega arith)

pub half-row : (level : ℕ) (x : List ℕ) → IsRow (suc level) x → length x / 2 ≡ 2 ^ level
half-row level x e = omega (arith, pow-suc 2 level)

pub part-row : (p : Bool) (level : ℕ) (x : List ℕ) → IsRow (suc level) x → IsRow level (part p x)
part-row p level x e = length-part p x ∙ half-row level x e

pub evens-row : (level : ℕ) (x : List ℕ) → IsRow (suc level) x → IsRow level (evens x)
evens-row level x e = ap length (evens-firsts x) ∙ part-row false level x e

pub odds-row : (level : ℕ) (x : List ℕ) → IsRow (suc level) x → IsRow level (odds x)
odds-row level x e = ap length (odds-seconds x) ∙ part-row true level x e

pub front-row : (level : ℕ) (x : List ℕ) → IsRow (suc level) x → IsRow level (take (2 ^ level) x)
front-row level x e = length-take-le (2 ^ level) x (omega (arith, pow-suc 2 level))

pub back-row : (level : ℕ) (x : List ℕ) → IsRow (suc level) x → IsRow level (drop (2 ^ level) x)
back-row level x e = omega (arith, length-drop (2 ^ level) x, pow-suc 2 level)

pub layer_row : (level : ℕ) (x y : List ℕ) → IsRow level x → IsRow level y → IsRow (suc level) (layer x y)
layer_row level x y e f = length-layer x y (e ∙ sym f) ∙ ap (λ n. n * 2) e ∙ sym (pow-suc 2 level)

pub power_below : (level : ℕ) → 0 < level → 2 ^ (level - 1) * 2 ≡ 2 ^ level
power_below zero h = absurd (omega arith)
power_below (suc level) h = let k : suc level - 1 ≡ level = omega arith in ap (λ n. 2 ^ n * 2) k ∙ sym (pow-suc 2 level)

-- half of a row's length
pub half_pow : (n : ℕ) → 2 ^ suc n / 2 ≡ 2 ^ n
half_pow n = let e = pow-succ' 2 n in omega arith

-- a row of the level below is shorter
pub shorter : (n : ℕ) (x part : List ℕ) → IsRow (suc n) x → IsRow n part → length part < length x
shorter n x part row r = let l : length x ≡ 2 * 2 ^ n = row ∙ pow-succ' 2 n in omega (arith, pow_pos n, r)

-- a length has one level
pub same-level : (n m level : ℕ) → n ≡ 2 ^ m → n ≡ 2 ^ level → level ≡ m
same-level n m level p q = grind (arith, pow_below level m, pow_below m level)

-- ---- sums

pub sum_pairs : (level : ℕ) (x : List ℕ) → IsRow (suc level) x → sum (part false x) + sum (part true x) ≡ sum x
sum_pairs level x e = sum-firsts-seconds (2 ^ level) x (e ∙ pow-suc 2 level)

pub sum-evens-odds : (level : ℕ) (x : List ℕ) → IsRow (suc level) x → sum (evens x) + sum (odds x) ≡ sum x
sum-evens-odds level x e = rw (evens-firsts x, odds-seconds x) (sum_pairs level x e)

pub sum-take-drop : (n : ℕ) (x : List ℕ) → sum (take n x) + sum (drop n x) ≡ sum x
sum-take-drop n x = omega (arith, sum_by-take-drop (λ (y : ℕ). y) x n)

-- The cochains by pairs of neighbours: each takes one of a pair, A the first of the first pair, then the second, and so on in turn.

abbrev pub in_turn : List ℕ → Bool → List ℕ
in_turn (a ∷ b ∷ x) true = a ∷ in_turn x false
in_turn (a ∷ b ∷ x) false = b ∷ in_turn x true
in_turn _ t = []

length-in-turn : (x : List ℕ) (t : Bool) → length (in_turn x t) ≡ length x / 2
length-in-turn (a ∷ b ∷ x) true = omega (arith, length-in-turn x false)
length-in-turn (a ∷ b ∷ x) false = omega (arith, length-in-turn x true)
length-in-turn _ t = refl

get-or-in-turn : (x : List ℕ) (j : ℕ) → j < length x / 2
    → (get_or (in_turn x true) j 0 ≡ get_or x (2 * j + j % 2) 0) × (get_or (in_turn x false) j 0 ≡ get_or x (2 * j + 1 - j % 2) 0)
get-or-in-turn (a ∷ b ∷ x) zero h = (refl, refl)
get-or-in-turn (a ∷ b ∷ x) (suc j) h =
    let r = get-or-in-turn x j (omega arith) in
    let k : 2 * suc j + suc j % 2 ≡ suc (suc (2 * j + 1 - j % 2)) = omega arith in
    let l : 2 * suc j + 1 - suc j % 2 ≡ suc (suc (2 * j + j % 2)) = omega arith in
    (rw k r.1, rw l r.0)
get-or-in-turn _ j h = absurd (omega arith)

pub a-in-turn : (x : List ℕ) → a_cochain x ≡ in_turn x true
a-in-turn x = sym (fill_by_all (λ j. get_or x (2 * j + j % 2) 0) (in_turn x true) (length x / 2) 0 (length-in-turn x true)
    (λ j h. (get-or-in-turn x j h).0))

pub b-in-turn : (x : List ℕ) → b_cochain x ≡ in_turn x false
b-in-turn x = sym (fill_by_all (λ j. get_or x (2 * j + 1 - j % 2) 0) (in_turn x false) (length x / 2) 0 (length-in-turn x false)
    (λ j h. (get-or-in-turn x j h).1))

-- ---- rows and sums

pub a_row : (level : ℕ) (x : List ℕ) → IsRow (suc level) x → IsRow level (a_cochain x)
a_row level x e = ap length (a-in-turn x) ∙ length-in-turn x true ∙ half-row level x e

pub b-row : (level : ℕ) (x : List ℕ) → IsRow (suc level) x → IsRow level (b_cochain x)
b-row level x e = ap length (b-in-turn x) ∙ length-in-turn x false ∙ half-row level x e

sum-in-turn : (n : ℕ) (x : List ℕ) → length x ≡ n * 2 → sum (in_turn x true) + sum (in_turn x false) ≡ sum x
sum-in-turn n [] e = refl
sum-in-turn (suc n) (a ∷ b ∷ x) e =
    omega (
      arith,
      sum-in-turn n x (omega arith),
      sum_by-cons (λ (y : ℕ). y) a (in_turn x false),
      sum_by-cons (λ (y : ℕ). y) b (in_turn x true),
      sum_by-cons (λ (y : ℕ). y) a (b ∷ x),
      sum_by-cons (λ (y : ℕ). y) b x,
    )
sum-in-turn _ _ e = absurd (omega arith)

pub sum-cochains : (level : ℕ) (x : List ℕ) → IsRow (suc level) x → sum (a_cochain x) + sum (b_cochain x) ≡ sum x
sum-cochains level x e = rw (a-in-turn x, b-in-turn x) (sum-in-turn (2 ^ level) x (e ∙ pow-suc 2 level))

-- ---- their even and odd entries

parts-in-turn : (p : Bool) (x : List ℕ) → (part p (in_turn x true) ≡ part p (part p x))
    × (part p (in_turn x false) ≡ part p (part (not p) x))
parts-in-turn false (a ∷ b ∷ c ∷ d ∷ x) = let (e, f) = parts-in-turn false x in (ap (λ r. a ∷ r) e, ap (λ r. b ∷ r) f)
parts-in-turn true (a ∷ b ∷ c ∷ d ∷ x) = let (e, f) = parts-in-turn true x in (ap (λ r. d ∷ r) e, ap (λ r. c ∷ r) f)
parts-in-turn p _ = (refl, refl)

pub part-a : (p : Bool) (x : List ℕ) → part p (a_cochain x) ≡ part p (part p x)
part-a p x = ap (part p) (a-in-turn x) ∙ (parts-in-turn p x).0

pub part-b : (p : Bool) (x : List ℕ) → part p (b_cochain x) ≡ part p (part (not p) x)
part-b p x = ap (part p) (b-in-turn x) ∙ (parts-in-turn p x).1

-- Rows of which every second entry is known.

pub length-interleave : (x y : List ℕ) → length x ≡ length y → length (interleave x y) ≡ length x + length x
length-interleave [] y e = refl
length-interleave (a ∷ x) [] e = absurd (omega arith)
length-interleave (a ∷ x) (b ∷ y) e = omega (arith, length-interleave x y (omega arith))

pub get-or-even : (x y : List ℕ) (i : ℕ) → length x ≡ length y → get_or (interleave x y) (i + i) 0 ≡ get_or x i 0
get-or-even (a ∷ x) [] i e = absurd (omega arith)
get-or-even (a ∷ x) (b ∷ y) (suc i) e =
    let k : suc i + suc i ≡ suc (suc (i + i)) = omega arith in
    rw k (get-or-even x y i (omega arith))
get-or-even _ _ _ e = refl

pub get-or-odd : (x y : List ℕ) (i : ℕ) → length x ≡ length y → get_or (interleave x y) (i + i + 1) 0 ≡ get_or y i 0
get-or-odd [] [] i e = refl
get-or-odd (a ∷ x) (b ∷ y) zero e = refl
get-or-odd (a ∷ x) (b ∷ y) (suc i) e =
    let k : suc i + suc i + 1 ≡ suc (suc (i + i + 1)) = omega arith in
    rw k (get-or-odd x y i (omega arith))
get-or-odd _ _ i e = absurd (omega arith)

-- The two halves of what passes a balancer.

pub half-sum : (n : ℕ) → half n 0 + half n 1 ≡ n
half-sum n = omega arith

pub half-mono : (m n p : ℕ) → m ≤ n → half m p ≤ half n p
half-mono m n p h = omega arith
