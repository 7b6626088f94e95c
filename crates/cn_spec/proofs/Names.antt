-- The names that the exits give out are the numbers below m, each once; and how many of them are of each exit.
use Rattle.cn_spec.proofs.Common.{◌≡◌, ℕ, zero, suc, ◌+◌, ◌-◌, ◌*◌, ◌/◌, ◌%◌, ◌≤◌, ◌<◌, ◌≢◌, ◌↔◌, List, [], ◌∷◌, ◌++◌, map, refl, sym, ap, ap₂, ◌∙◌, inl, inr, subst, subst₂, append_assoc, arith, eq-or-lt_of_le, le-div_iff_mul-le, div-add-mod', mod-add-div, cases_order, mod_below, div-mul-add, mod-mul-add, map-range_with_len_more, IsPermutation-refl, IsPermutation-trans, IsPermutation-append_left, IsPermutation-append_right, IsPermutation-append_comm, range_with_len, flat_map, IsPermutation, share, name_of, names_at, names, IsEachBelow, cond, Bool, add-zero, sum_by-IsPermutation, sum_by-append, sum_by-cons, nat_tests, fill_by_all, get_or-map-range_with_len, length-map-range_with_len, count_by, counts_after, counts_of, shares, shares_after}
use Rattle.cn_spec.proofs.Shares.{share-is}
use Rattle.std.specs.Prelude.{◌==◌}

-- a name is below m where its visit is below the share of its exit
pub name-below : (m w i v : ℕ) → i < w → (v < share m w i) ↔ (name_of w i v < m)
name-below m w i v h = (λ l. to l, λ l. from l)
  where
    pos : 0 < w
    pos = omega arith

    to : v < share m w i → i + w * v < m
    to l = let k : (v + 1) * w ≤ m + w - 1 - i = (le-div_iff_mul-le pos).0 (omega arith) in omega arith

    from : i + w * v < m → v < share m w i
    from l = let k : v + 1 ≤ share m w i = (le-div_iff_mul-le pos).1 (omega arith) in omega arith

-- exit and visit are the remainder and the quotient of the name
pub exit_of-name_of : (w i v : ℕ) → i < w → (name_of w i v % w ≡ i) × (name_of w i v / w ≡ v)
exit_of-name_of w i v h =
    let e : name_of w i v ≡ v * w + i = omega arith in
    (ap (λ n. n % w) e ∙ mod-mul-add v w i h, ap (λ n. n / w) e ∙ div-mul-add v w i h)

pub name_of-exit_of : (w n : ℕ) → name_of w (n % w) (n / w) ≡ n
name_of-exit_of w n = mod-add-div n w

-- ---- one more token

pub range_more : (a n : ℕ) → range_with_len a (suc n) ≡ range_with_len a n ++ (a + n) ∷ []
range_more a zero = ap (λ k. k ∷ []) (omega arith)
range_more a (suc n) = ap (λ r. a ∷ r) (range_more (a + 1) n ∙ ap (λ k. range_with_len (a + 1) n ++ k ∷ []) (omega arith))

pub range_next : (m : ℕ) → range_with_len 0 (suc m) ≡ range_with_len 0 m ++ m ∷ []
range_next m = range_more 0 m ∙ ap (λ k. range_with_len 0 m ++ k ∷ []) (omega arith)

-- the share of the exit m mod w grows by one, and no other
pub share-next : (m w i : ℕ) → i < w → i ≡ m % w → (share m w i ≡ m / w) × (share (suc m) w i ≡ m / w + 1)
share-next m w i h e =
    let k : m / w * w + m % w ≡ m = div-add-mod' m w in
    (share-is m w i (m / w) h (omega arith) (omega arith), share-is (suc m) w i (m / w + 1) h (omega arith) (omega arith))

pub share-stays : (m w i : ℕ) → i < w → i ≢ m % w → share (suc m) w i ≡ share m w i
share-stays m w i h e = elim (cases_order i (m % w)) [ inl q ↦ absurd (e q) | inr o ↦ elim o [ inl l ↦ low l | inr l ↦ high l ] ]
  where
    k : m / w * w + m % w ≡ m
    k = div-add-mod' m w

    r : m % w < w
    r = mod_below m w (omega arith)

    low : i < m % w → share (suc m) w i ≡ share m w i
    low l = share-is (suc m) w i (m / w + 1) h (omega arith) (omega arith) ∙ sym (share-is m w i (m / w + 1) h (omega arith) (omega arith))

    high : m % w < i → share (suc m) w i ≡ share m w i
    high l = share-is (suc m) w i (m / w) h (omega arith) (omega arith) ∙ sym (share-is m w i (m / w) h (omega arith) (omega arith))

names-next : (m w i : ℕ) → i < w → i ≡ m % w → names_at (suc m) w i ≡ names_at m w i ++ m ∷ []
names-next m w i h e =
    let s : (share m w i ≡ m / w) × (share (suc m) w i ≡ m / w + 1) = share-next m w i h e in
    let n : name_of w i (m / w) ≡ m = ap (λ j. name_of w j (m / w)) e ∙ name_of-exit_of w m in
    ap (λ c. map (name_of w i) (range_with_len 0 c)) s.1
    ∙ map-range_with_len_more (name_of w i) 0 (m / w) (m / w) (omega arith)
    ∙ ap₂ (λ c j. map (name_of w i) (range_with_len 0 c) ++ j ∷ []) (sym s.0) n

names-stay : (m w i : ℕ) → i < w → i ≢ m % w → names_at (suc m) w i ≡ names_at m w i
names-stay m w i h e = ap (λ c. map (name_of w i) (range_with_len 0 c)) (share-stays m w i h e)

-- f and g agree but at k, where g has one more
same-flat-map : (f g : ℕ → List ℕ) (a n : ℕ) → ((i : ℕ) → a ≤ i → i < a + n → g i ≡ f i)
    → flat_map g (range_with_len a n) ≡ flat_map f (range_with_len a n)
same-flat-map f g a zero e = refl
same-flat-map f g a (suc n) e = ap₂ (λ s t. s ++ t) (e a (omega arith) (omega arith))
    (same-flat-map f g (a + 1) n (λ i l h. e i (omega arith) (omega arith)))

one_more : (f g : ℕ → List ℕ) (k x a n : ℕ) → a ≤ k → k < a + n → g k ≡ f k ++ x ∷ [] → ((i : ℕ) → i < a + n → i ≢ k → g i ≡ f i)
    → IsPermutation (flat_map f (range_with_len a n) ++ x ∷ []) (flat_map g (range_with_len a n))
one_more f g k x a zero l h e s = absurd (omega arith)
one_more f g k x a (suc n) l h e s = elim (eq-or-lt_of_le l) [ inl i ↦ here i | inr i ↦ later i (one_more f g k x (a + 1) n) ]
  where
    rest : List ℕ
    rest = flat_map f (range_with_len (a + 1) n)

    here : a ≡ k → IsPermutation (flat_map f (range_with_len a (suc n)) ++ x ∷ []) (flat_map g (range_with_len a (suc n)))
    here i =
        let p : IsPermutation (f a ++ (rest ++ x ∷ [])) (f a ++ (x ∷ [] ++ rest)) =
        IsPermutation-append_right (f a) (rest ++ x ∷ []) (x ∷ [] ++ rest) (IsPermutation-append_comm rest (x ∷ [])) in
        let q : f a ++ (x ∷ [] ++ rest) ≡ flat_map g (range_with_len a (suc n)) =
        sym (append_assoc (f a) (x ∷ []) rest)
        ∙ ap₂ (λ s t. s ++ t) (sym (ap g i ∙ e ∙ ap (λ j. f j ++ x ∷ []) (sym i)))
        (sym (same-flat-map f g (a + 1) n (λ j l h. s j (omega arith) (omega arith)))) in
        subst₂ IsPermutation (sym (append_assoc (f a) rest (x ∷ []))) q p

    later : a < k → (a + 1 ≤ k → k < a + 1 + n → g k ≡ f k ++ x ∷ [] → ((i : ℕ) → i < a + 1 + n → i ≢ k → g i ≡ f i)
        → IsPermutation (rest ++ x ∷ []) (flat_map g (range_with_len (a + 1) n)))
        → IsPermutation (flat_map f (range_with_len a (suc n)) ++ x ∷ []) (flat_map g (range_with_len a (suc n)))
    later i ih =
        subst₂ IsPermutation (sym (append_assoc (f a) rest (x ∷ [])))
        (ap (λ r. r ++ flat_map g (range_with_len (a + 1) n)) (sym (s a (omega arith) (omega arith))))
        (IsPermutation-append_right (f a) _ _ (ih (omega arith) (omega arith) e (λ j h n. s j (omega arith) n)))

no_names : (w a n : ℕ) → a + n ≤ w → flat_map (names_at 0 w) (range_with_len a n) ≡ []
no_names w a zero l = refl
no_names w a (suc n) l =
    let e : share 0 w a ≡ 0 = share-is 0 w a 0 (omega arith) (omega arith) (omega arith) in
    ap₂ (λ c r. map (name_of w a) (range_with_len 0 c) ++ r) e (no_names w (a + 1) n (omega arith))

-- the names of m tokens over w exits
pub names-each_below : (m w : ℕ) → 0 < w → IsEachBelow m (names m w)
names-each_below zero w h = subst (IsPermutation []) (sym (no_names w 0 w (omega arith))) (IsPermutation-refl [])
names-each_below (suc m) w h =
    let r : m % w < w = mod_below m w h in
    IsPermutation-trans _ _ _
    (rw (range_next m) (IsPermutation-append_left (m ∷ []) (range_with_len 0 m) (names m w) (names-each_below m w h)))
    (one_more (names_at m w) (names_at (suc m) w) (m % w) m 0 w (omega arith) (omega arith) (names-next m w (m % w) r refl)
    (λ i l n. names-stay m w i (omega arith) n))

-- How many of the numbers below k are i modulo w: the share of i; and of k numbers from m on.

-- of k numbers from m on: with the share of m, the share of m + k
count_after : (w m i k : ℕ) → i < w → count_by (λ n. (m + n) % w == i) (range_with_len 0 k) + share m w i ≡ share (m + k) w i
count_after w m i zero h =
    let same : share m w i ≡ share (m + 0) w i = ap (λ (n : ℕ). share n w i) (omega arith) in
    omega (arith, same)
count_after w m i (suc k) h =
    let list = ap (count_by is_of) (range_next k) ∙ sum_by-append (λ n. cond (is_of n) 1 0) (range_with_len 0 k) (k ∷ []) in
    let one = sum_by-cons (λ n. cond (is_of n) 1 0) k [] ∙ add-zero (cond (is_of k) 1 0) in
    let next : share (suc (m + k)) w i ≡ share (m + suc k) w i = ap (λ (n : ℕ). share n w i) (omega arith) in
    counted list one next (count_after w m i k h)
  where
    is_of : ℕ → Bool
    is_of n = (m + n) % w == i

    counted : count_by is_of (range_with_len 0 (suc k)) ≡ count_by is_of (range_with_len 0 k) + count_by is_of (k ∷ [])
        → count_by is_of (k ∷ []) ≡ cond (is_of k) 1 0 → share (suc (m + k)) w i ≡ share (m + suc k) w i
        → count_by is_of (range_with_len 0 k) + share m w i ≡ share (m + k) w i
        → count_by is_of (range_with_len 0 (suc k)) + share m w i ≡ share (m + suc k) w i
    counted list one next before =
        grind (arith, nat_tests, share-next (m + k) w i h, share-stays (m + k) w i h)

no-share : (w i : ℕ) → i < w → share 0 w i ≡ 0
no-share w i h = share-is 0 w i 0 h (omega arith) (omega (arith, h))

share-of_none-more : (w i k : ℕ) → share (0 + k) w i ≡ share k w i
share-of_none-more w i k = ap (λ (n : ℕ). share n w i) (omega arith)

count-range : (w i k : ℕ) → i < w → count_by (λ n. n % w == i) (range_with_len 0 k) ≡ share k w i
count-range w i k h =
    let plain : (n : ℕ) → n ≡ 0 + n = λ n. omega arith in
    (λ j. count_by (λ n. plain n j % w == i) (range_with_len 0 k))
    ∙ omega (arith, count_after w 0 i k h, no-share w i h, share-of_none-more w i k)

map_same : (f g : ℕ → ℕ) (n : ℕ) → ((i : ℕ) → i < n → f i ≡ g i) → map f (range_with_len 0 n) ≡ map g (range_with_len 0 n)
map_same f g n same = fill_by_all g (map f (range_with_len 0 n)) n 0 (length-map-range_with_len f 0 n)
    (λ i h. get_or-map-range_with_len f 0 n i i 0 h (omega arith) ∙ same i h)

pub counts-shares : (w k : ℕ) (names : List ℕ) → IsEachBelow k names → counts_of w names ≡ shares k w
counts-shares w k names each =
    map_same (λ i. count_by (λ n. n % w == i) names) (share k w) w
    (λ i h. sum_by-IsPermutation (λ n. cond (n % w == i) 1 0) (range_with_len 0 k) names each ∙ count-range w i k h)

-- the share of all less the share of those before
after-range : (w m i k : ℕ) → i < w → count_by (λ n. (m + n) % w == i) (range_with_len 0 k) ≡ share (m + k) w i - share m w i
after-range w m i k h = omega (arith, count_after w m i k h)

pub counts-shares-after : (w m k : ℕ) (names : List ℕ) → IsEachBelow k names → counts_after m w names ≡ shares_after m k w
counts-shares-after w m k names each =
    map_same (λ i. count_by (λ n. (m + n) % w == i) names) (λ i. share (m + k) w i - share m w i) w
    (λ i h. sum_by-IsPermutation (λ n. cond ((m + n) % w == i) 1 0) (range_with_len 0 k) names each ∙ after-range w m i k h)

-- those that come after nobody
pub first-shares : (k w : ℕ) → shares_after 0 k w ≡ shares k w
first-shares k w =
    map_same (λ i. share (0 + k) w i - share 0 w i) (share k w) w
    (λ i h. omega (arith, no-share w i h, share-of_none-more w i k))

-- what the laws say
pub ruleset name_laws = (names-each_below, name-below, exit_of-name_of, name_of-exit_of)

pub ruleset count_laws = (counts-shares, counts-shares-after, first-shares)
