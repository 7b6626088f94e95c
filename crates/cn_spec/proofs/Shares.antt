-- The step property, the shares `share m w i`, and the counts of the tree, which are shares.
use Rattle.cn_spec.proofs.Common.{◌≡◌, ℕ, zero, suc, ◌+◌, ◌-◌, ◌*◌, ◌/◌, ◌%◌, ◌≤◌, ◌<◌, ◌↔◌, List, [], ◌∷◌, length, get_or, refl, sym, ap, ◌∙◌, subst, arith, div-eq_of_lt-le, le-div_iff_mul-le, div-lt_iff_lt-mul, div-mul-le_self, div-add-mod', lt-div-mul-add, mod_below, sum_by-cons, get_or-map-range_with_len, length-map-range_with_len, fill_by_all, sum, share, shares, IsStep, ◌^◌, ◌⊎◌, ap₂, inl, inr, pow-suc, div-div-eq-div-mul, pow_pos, half, IsRow, interleave, tree}
use Rattle.cn_spec.proofs.Rows.{length-interleave, get-or-even, get-or-odd}

-- ---- sums of rows that are c + 1 below place n and c from there on

sum-at_most : (c : ℕ) (x : List ℕ) (n : ℕ) → ((j : ℕ) → j < n → get_or x j 0 ≤ c + 1) → ((j : ℕ) → n ≤ j → j < length x → get_or x j 0 ≤ c)
    → sum x ≤ length x * c + n
sum-at_most c [] n p q = omega arith
sum-at_most c (a ∷ x) n p q =
    let r = sum-at_most c x (n - 1) (λ j l. p (suc j) (omega arith)) (λ j l m. q (suc j) (omega arith) (omega arith)) in
    grind (arith, p 0, q 0, sum_by-cons (λ (y : ℕ). y) a x)

sum-at_least : (c : ℕ) (x : List ℕ) (n : ℕ) → n ≤ length x → ((j : ℕ) → j < n → c + 1 ≤ get_or x j 0)
    → ((j : ℕ) → n ≤ j → j < length x → c ≤ get_or x j 0) → length x * c + n ≤ sum x
sum-at_least c [] n b p q = omega arith
sum-at_least c (a ∷ x) n b p q =
    let r = sum-at_least c x (n - 1) (omega arith) (λ j l. p (suc j) (omega arith)) (λ j l m. q (suc j) (omega arith) (omega arith)) in
    grind (arith, p 0, q 0, sum_by-cons (λ (y : ℕ). y) a x)

-- ---- places of `shares`

pub length-shares : (m w : ℕ) → length (shares m w) ≡ w
length-shares m w = length-map-range_with_len (share m w) 0 w

pub get-or-shares : (m w i : ℕ) → i < w → get_or (shares m w) i 0 ≡ share m w i
get-or-shares m w i h = get_or-map-range_with_len (share m w) 0 w i i 0 h (omega arith)

-- a share is c where m lies between
pub share-is : (m w i c : ℕ) → i < w → c * w ≤ m + w - 1 - i → m + w - 1 - i < (c + 1) * w → share m w i ≡ c
share-is m w i c h p q = div-eq_of_lt-le w p q

-- ---- a row with the step property has the shares of its sum

shares-at : (x : List ℕ) → IsStep x → (i : ℕ) → i < length x → get_or x i 0 ≡ share (sum x) (length x) i
shares-at x s i h = go (get_or x i 0) refl
  where
    before : (j : ℕ) → j < i → (get_or x i 0 ≤ get_or x j 0) × (get_or x j 0 ≤ get_or x i 0 + 1)
    before j l = (s.no_less j i l h, s.at_most_one_more j i l h)

    up_to : (j : ℕ) → j ≤ i → get_or x i 0 ≤ get_or x j 0
    up_to j l = grind (arith, s.no_less j i)

    after : (j : ℕ) → i ≤ j → j < length x → (get_or x j 0 ≤ get_or x i 0) × (get_or x i 0 ≤ get_or x j 0 + 1)
    after j l m = (grind (arith, s.no_less i j), grind (arith, s.at_most_one_more i j))

    go : (c : ℕ) → get_or x i 0 ≡ c → c ≡ share (sum x) (length x) i
    go zero e =
        let u : sum x ≤ length x * 0 + i = sum-at_most 0 x i (λ j l. omega (arith, before j l)) (λ j l m. omega (arith, after j l m)) in
        sym (share-is (sum x) (length x) i 0 h (omega arith) (omega arith))
    go (suc c) e =
        let u : sum x ≤ length x * suc c + i = sum-at_most (suc c) x i (λ j l. omega (arith, before j l))
        (λ j l m. omega (arith, after j l m)) in
        let v : length x * c + suc i ≤ sum x = sum-at_least c x (suc i) h (λ j l. omega (arith, e, up_to j (omega arith)))
        (λ j l m. omega (arith, after j (omega arith) m)) in
        sym (share-is (sum x) (length x) i (suc c) h (omega arith) (omega arith))

pub row_is-shares : (x : List ℕ) → IsStep x → x ≡ shares (sum x) (length x)
row_is-shares x s = fill_by_all (share (sum x) (length x)) x (length x) 0 refl (shares-at x s)

-- ---- and the shares have it

div_mono : (a b w : ℕ) → 0 < w → a ≤ b → a / w ≤ b / w
div_mono a b w h l = (le-div_iff_mul-le h).1 (omega (arith, div-mul-le_self a w))

div_below : (a b w : ℕ) → 0 < w → a ≤ b + w → a / w ≤ b / w + 1
div_below a b w h l =
    let k : a / w < b / w + 2 = (div-lt_iff_lt-mul h).1 (omega (arith, lt-div-mul-add {a = b} h)) in
    omega arith

pub shares-is_step : (m w : ℕ) → IsStep (shares m w)
shares-is_step m w = record {
  no_less = λ i j l h. let k : j < w = omega (arith, length-shares m w) in
      rw (get-or-shares m w i (omega arith), get-or-shares m w j k)
      (div_mono (m + w - 1 - j) (m + w - 1 - i) w (omega arith) (omega arith));
  at_most_one_more = λ i j l h. let k : j < w = omega (arith, length-shares m w) in
      rw (get-or-shares m w i (omega arith), get-or-shares m w j k)
      (div_below (m + w - 1 - i) (m + w - 1 - j) w (omega arith) (omega arith));
}

-- the shares are all of m
pub sum-shares : (m w : ℕ) → 0 < w → sum (shares m w) ≡ m
sum-shares m w h =
    let q = m / w in
    let r = m % w in
    let e : q * w + r ≡ m = div-add-mod' m w in
    let below : r < w = mod_below m w h in
    let large : (j : ℕ) → j < r → get_or (shares m w) j 0 ≡ q + 1 =
    λ j l. get-or-shares m w j (omega arith) ∙ share-is m w j (q + 1) (omega arith) (omega arith) (omega arith) in
    let small : (j : ℕ) → r ≤ j → j < length (shares m w) → get_or (shares m w) j 0 ≡ q =
    λ j l k. let k' : j < w = omega (arith, length-shares m w) in
    get-or-shares m w j k' ∙ share-is m w j q k' (omega arith) (omega arith) in
    let upper : sum (shares m w) ≤ length (shares m w) * q + r =
    sum-at_most q (shares m w) r (λ j l. omega (arith, large j l)) (λ j l k. omega (arith, small j l k)) in
    let lower : length (shares m w) * q + r ≤ sum (shares m w) =
    sum-at_least q (shares m w) r (omega (arith, length-shares m w)) (λ j l. omega (arith, large j l))
    (λ j l k. omega (arith, small j l k)) in
    omega (arith, upper, lower, e, ap (λ n. n * q) (length-shares m w))

-- the step property, by the shares
pub is_step-shares : (x : List ℕ) → IsStep x ↔ (x ≡ shares (sum x) (length x))
is_step-shares x = (row_is-shares x, λ e. subst IsStep (sym e) (shares-is_step (sum x) (length x)))

-- The tree's counts are the shares over 2 ^ level exits.

-- ---- the shares of the even exits and of the odd ones are those of the halves

share-part : (m h i p : ℕ) → i < h → p < 2 → share m (h * 2) (i + i + p) ≡ share (half m p) h i
share-part m h i p l k =
    ap (λ n. (m + h * 2 - 1 - (i + i + p)) / n) (omega arith)
    ∙ sym (div-div-eq-div-mul (m + h * 2 - 1 - (i + i + p)) 2 h)
    ∙ ap (λ n. n / h) (omega arith)

pub even-or-odd : (k : ℕ) → (k ≡ k / 2 + k / 2) ⊎ (k ≡ k / 2 + k / 2 + 1)
even-or-odd k = grind arith

interleave-steps : (m h : ℕ) → interleave (shares (half m 0) h) (shares (half m 1) h) ≡ shares m (h * 2)
interleave-steps m h = fill_by_all (share m (h * 2)) (interleave x y) (h * 2) 0
    (omega (arith, length-interleave x y same, length-shares (half m 0) h))
    (λ k l. elim (even-or-odd k) [ inl e ↦ even k l e | inr e ↦ odd k l e ])
  where
    x : List ℕ
    x = shares (half m 0) h

    y : List ℕ
    y = shares (half m 1) h

    same : length x ≡ length y
    same = length-shares (half m 0) h ∙ sym (length-shares (half m 1) h)

    even : (k : ℕ) → k < h * 2 → k ≡ k / 2 + k / 2 → get_or (interleave x y) k 0 ≡ share m (h * 2) k
    even k l e =
        ap (λ n. get_or (interleave x y) n 0) e ∙ get-or-even x y (k / 2) same ∙ get-or-shares (half m 0) h (k / 2) (omega arith)
        ∙ sym (share-part m h (k / 2) 0 (omega arith) (omega arith)) ∙ ap (share m (h * 2)) (omega arith)

    odd : (k : ℕ) → k < h * 2 → k ≡ k / 2 + k / 2 + 1 → get_or (interleave x y) k 0 ≡ share m (h * 2) k
    odd k l e =
        ap (λ n. get_or (interleave x y) n 0) e ∙ get-or-odd x y (k / 2) same ∙ get-or-shares (half m 1) h (k / 2) (omega arith)
        ∙ sym (share-part m h (k / 2) 1 (omega arith) (omega arith)) ∙ ap (share m (h * 2)) (sym e)

-- ---- the law

pub tree-shares : (level m : ℕ) → tree level m ≡ shares m (2 ^ level)
unfolding tree
tree-shares zero m = ap (λ k. k ∷ []) (omega arith)
tree-shares (suc level) m =
    ap₂ interleave (tree-shares level (half m 0)) (tree-shares level (half m 1))
    ∙ interleave-steps m (2 ^ level) ∙ ap (shares m) (sym (pow-suc 2 level))

pub tree-row : (level m : ℕ) → IsRow level (tree level m)
tree-row level m = ap length (tree-shares level m) ∙ length-shares m (2 ^ level)

pub tree_is-step : (level m : ℕ) → IsStep (tree level m)
tree_is-step level m = subst IsStep (sym (tree-shares level m)) (shares-is_step m (2 ^ level))

pub sum-tree : (level m : ℕ) → sum (tree level m) ≡ m
sum-tree level m = ap sum (tree-shares level m) ∙ sum-shares m (2 ^ level) (pow_pos level)

-- a row with the step property is the tree's of its sum
pub step-tree : (level : ℕ) (x : List ℕ) → IsRow level x → IsStep x → x ≡ tree level (sum x)
step-tree level x e s = row_is-shares x s ∙ ap (shares (sum x)) e ∙ sym (tree-shares level (sum x))

-- ---- its recursion

pub tree-zero : (m : ℕ) → tree 0 m ≡ m ∷ []
unfolding tree
tree-zero m = refl

pub tree-turn : (level m : ℕ) → 0 < level → tree level m ≡ interleave (tree (level - 1) (half m 0)) (tree (level - 1) (half m 1))
unfolding tree
tree-turn zero m h = absurd (omega arith)
tree-turn (suc level) m h = let e : level ≡ suc level - 1 = omega arith in ap (λ k. interleave (tree k (half m 0)) (tree k (half m 1))) e

pub tree-lengths : (level a b : ℕ) → length (tree level a) ≡ length (tree level b)
tree-lengths level a b = tree-row level a ∙ sym (tree-row level b)

-- what the laws say
pub ruleset share_laws = (is_step-shares, sum-shares)

pub ruleset tree_laws = (tree-shares, tree_is-step, sum-tree)
