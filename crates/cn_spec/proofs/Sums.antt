-- Sums over the places of a list, and over ranges.
use Rattle.cn_spec.proofs.Common.{◌≡◌, ◌≢◌, ℕ, zero, suc, ◌+◌, ◌<◌, ◌≤◌, Bool, true, false, cond, List, [], ◌∷◌, ◌++◌, length, map, get_or, replicate, set, sum_by, refl, sym, ◌∙◌, inl, inr, arith, eqb, ltb, zero-add, slice_index, nat_eq, get_or-set_same, get_or-set_other, ap, cases_Bool, cases_eq, cases_lt, false_from_ne_true, le-ltb, nat_tests, sum_by-cons, when, one_more, total_where, sum_below}

pub total-where-push : {A : Type 0} → (p : A → Bool) (xs : List A) (x : A) (f : ℕ → ℕ) → p x ≡ false
    → total_where p (xs ++ x ∷ []) f ≡ total_where p xs f
unfolding total_where
total-where-push p [] x f h = rw h (omega arith)
total-where-push p (y ∷ xs) x f h = rw (total-where-push p xs x (λ u. f (suc u)) h)

-- a member is replaced
pub total-where-set : {A : Type 0} → (p : A → Bool) (xs : List A) (i : ℕ) (y d : A) (f : ℕ → ℕ) → i < length xs
    → total_where p (set xs i y) f + when (p (get_or xs i d)) (f i) ≡ total_where p xs f + when (p y) (f i)
unfolding total_where
total-where-set p [] i y d f h = elim h [ ]
total-where-set p (x ∷ xs) zero y d f h = omega arith
total-where-set p (x ∷ xs) (suc i) y d f h =
    let k : i < length xs = omega arith in
    omega (arith, total-where-set p xs i y d (λ u. f (suc u)) k)

-- no member passes
pub total-where-none : {A : Type 0} → (p : A → Bool) (xs : List A) (d : A) (f : ℕ → ℕ)
    → ((i : ℕ) → i < length xs → p (get_or xs i d) ≡ false) → total_where p xs f ≡ 0
unfolding total_where
total-where-none p [] d f h = refl
total-where-none p (x ∷ xs) d f h =
    let head : p x ≡ false = h 0 (omega arith) in
    rw (head, zero-add) (total-where-none p xs d (λ u. f (suc u)) (λ i k. h (suc i) (omega arith)))

pub total-where-mono : {A : Type 0} → (p : A → Bool) (xs : List A) (d : A) (f g : ℕ → ℕ)
    → ((u : ℕ) → u < length xs → p (get_or xs u d) ≡ true → f u ≤ g u) → total_where p xs f ≤ total_where p xs g
unfolding total_where
total-where-mono p [] d f g h = omega arith
total-where-mono p (x ∷ xs) d f g h = grind (
  arith,
  cases_Bool (p x),
  h 0 (omega arith),
  total-where-mono p xs d (λ u. f (suc u)) (λ u. g (suc u)) (λ u k e. h (suc u) (omega arith) e),
)

-- only the places at which a member passes matter
pub total-where-agree : {A : Type 0} → (p : A → Bool) (xs : List A) (d : A) (f g : ℕ → ℕ)
    → ((u : ℕ) → u < length xs → p (get_or xs u d) ≡ true → f u ≡ g u) → total_where p xs f ≡ total_where p xs g
total-where-agree p xs d f g h = omega (
  arith,
  total-where-mono p xs d f g (λ u k e. omega (arith, h u k e)),
  total-where-mono p xs d g f (λ u k e. omega (arith, h u k e)),
)

pub total-where-zero : {A : Type 0} → (p : A → Bool) (xs : List A) → total_where p xs (λ _. 0) ≡ 0
unfolding total_where
total-where-zero p [] = refl
total-where-zero p (x ∷ xs) = grind (arith, cases_Bool (p x), total-where-zero p xs)

-- a term is at most the sum
pub total-where-part : {A : Type 0} → (p : A → Bool) (xs : List A) (d : A) (f : ℕ → ℕ) (u : ℕ) → u < length xs → p (get_or xs u d) ≡ true
    → f u ≤ total_where p xs f
unfolding total_where
total-where-part p [] d f u h e = absurd (omega arith)
total-where-part p (x ∷ xs) d f zero h e = rw e (omega arith)
total-where-part p (x ∷ xs) d f (suc u) h e = let rest = total-where-part p xs d (λ v. f (suc v)) u (omega arith) e in omega arith

-- and two terms together are
pub total-where-parts : {A : Type 0} → (p : A → Bool) (xs : List A) (d : A) (f : ℕ → ℕ) (u v : ℕ) → u < length xs → v < length xs → u ≢ v
    → p (get_or xs u d) ≡ true → p (get_or xs v d) ≡ true → f u + f v ≤ total_where p xs f
unfolding total_where
total-where-parts p [] d f u v h k n a b = absurd (omega arith)
total-where-parts p (x ∷ xs) d f zero zero h k n a b = absurd (n refl)
total-where-parts p (x ∷ xs) d f zero (suc v) h k n a b = let rest = total-where-part p xs d (λ w. f (suc w)) v (omega arith) b in
    rw a (omega arith)
total-where-parts p (x ∷ xs) d f (suc u) zero h k n a b = let rest = total-where-part p xs d (λ w. f (suc w)) u (omega arith) a in
    rw b (omega arith)
total-where-parts p (x ∷ xs) d f (suc u) (suc v) h k n a b =
    let rest = total-where-parts p xs d (λ w. f (suc w)) u v (omega arith) (omega arith) (λ e. n (ap suc e)) a b in
    omega arith

-- a sum of which one term rises by x
pub sum-below-change : (n w x : ℕ) (f g : ℕ → ℕ) → ((u : ℕ) → g u ≡ f u + cond (eqb u w) x 0)
    → sum_below n g ≡ sum_below n f + cond (ltb w n) x 0
unfolding sum_below
sum-below-change zero w x f g each = grind (arith, nat_tests)
sum-below-change (suc n) w x f g each = grind (arith, nat_tests, sum-below-change n w x f g each, each n)

pub sum-below-zero : (n : ℕ) (f : ℕ → ℕ) → ((u : ℕ) → f u ≡ 0) → sum_below n f ≡ 0
unfolding sum_below
sum-below-zero zero f each = refl
sum-below-zero (suc n) f each = omega (arith, sum-below-zero n f each, each n)

pub sum-below-same : (n : ℕ) (f g : ℕ → ℕ) → ((u : ℕ) → u < n → f u ≡ g u) → sum_below n f ≡ sum_below n g
unfolding sum_below
sum-below-same zero f g h = refl
sum-below-same (suc n) f g h = rw (sum-below-same n f g (λ u k. h u (omega arith)), h n (omega arith))

-- one member more
pub total-where-more : {A : Type 0} → (p : A → Bool) (xs : List A) (x : A)
    → total_where p (xs ++ x ∷ []) (λ _. 1) ≡ total_where p xs (λ _. 1) + when (p x) 1
unfolding total_where
total-where-more p [] x = omega arith
total-where-more p (y ∷ xs) x = omega (arith, total-where-more p xs x)

pub total-where-le : {A : Type 0} → (p : A → Bool) (xs : List A) → total_where p xs (λ _. 1) ≤ length xs
unfolding total_where
total-where-le p [] = omega arith
total-where-le p (x ∷ xs) = grind (arith, cases_Bool (p x), total-where-le p xs)

pub total-where-map : {A B : Type 0} → (p : B → Bool) (g : A → B) (xs : List A) (f : ℕ → ℕ)
    → total_where p (map g xs) f ≡ total_where (λ x. p (g x)) xs f
unfolding total_where
total-where-map p g [] f = refl
total-where-map p g (x ∷ xs) f = rw (total-where-map p g xs (λ u. f (suc u)))

-- two tests that agree
pub total-where-tests : {A : Type 0} → (p q : A → Bool) (xs : List A) (f : ℕ → ℕ) → ((x : A) → p x ≡ q x)
    → total_where p xs f ≡ total_where q xs f
unfolding total_where
total-where-tests p q [] f h = refl
total-where-tests p q (x ∷ xs) f h = rw (h x, total-where-tests p q xs (λ u. f (suc u)) h)

-- one place passes
pub total-where-one : {A : Type 0} → (p : A → Bool) (xs : List A) (w : ℕ) (d : A) (f : ℕ → ℕ) → w < length xs → p (get_or xs w d) ≡ true
    → ((u : ℕ) → u < length xs → p (get_or xs u d) ≡ true → u ≡ w) → total_where p xs f ≡ f w
unfolding total_where
total-where-one p [] w d f h e o = elim h [ ]
total-where-one p (x ∷ xs) zero d f h e o =
    let none = total-where-none p xs d (λ u. f (suc u))
    (λ u k. false_from_ne_true (p (get_or xs u d)) (λ q. let z = o (suc u) (omega arith) q in omega arith)) in
    rw (e, none) (omega arith)
total-where-one p (x ∷ xs) (suc w) d f h e o =
    let rest = total-where-one p xs w d (λ u. f (suc u)) (omega arith) e (λ u k q. let z = o (suc u) (omega arith) q in omega arith) in
    grind (arith, cases_Bool (p x), o 0 (omega arith), rest)

-- two sums that are shifted alike
pub total-where-shift : {A : Type 0} → (p : A → Bool) (xs : List A) (f a g b : ℕ → ℕ) → ((u : ℕ) → u < length xs → f u + a u ≡ g u + b u)
    → total_where p xs f + total_where p xs a ≡ total_where p xs g + total_where p xs b
unfolding total_where
total-where-shift p [] f a g b h = refl
total-where-shift p (x ∷ xs) f a g b h =
    let rest = total-where-shift p xs (λ u. f (suc u)) (λ u. a (suc u)) (λ u. g (suc u)) (λ u. b (suc u))
    (λ u k. h (suc u) (omega arith)) in
    grind (arith, cases_Bool (p x), h 0 (omega arith), rest)

-- ---- sums over ranges

pub sum-below-plus : (n : ℕ) (f g : ℕ → ℕ) → sum_below n (λ u. f u + g u) ≡ sum_below n f + sum_below n g
unfolding sum_below
sum-below-plus zero f g = refl
sum-below-plus (suc n) f g = omega (arith, sum-below-plus n f g)

-- two sums that are shifted alike
pub sum-below-shift : (n : ℕ) (f a g b : ℕ → ℕ) → ((u : ℕ) → u < n → f u + a u ≡ g u + b u)
    → sum_below n f + sum_below n a ≡ sum_below n g + sum_below n b
sum-below-shift n f a g b h =
    sym (sum-below-plus n f a) ∙ sum-below-same n (λ u. f u + a u) (λ u. g u + b u) h ∙ sum-below-plus n g b

pub sum-below-le : (n : ℕ) (f g : ℕ → ℕ) → ((u : ℕ) → u < n → f u ≤ g u) → sum_below n f ≤ sum_below n g
unfolding sum_below
sum-below-le zero f g h = omega arith
sum-below-le (suc n) f g h = omega (arith, sum-below-le n f g (λ u l. h u (omega arith)), h n (omega arith))

pub sum-below-none : (f : ℕ → ℕ) → sum_below 0 f ≡ 0
unfolding sum_below
sum-below-none f = refl

-- one term more
pub sum-below-next : (f : ℕ → ℕ) (n : ℕ) → sum_below (n + 1) f ≡ sum_below n f + f n
unfolding sum_below
sum-below-next f n = let e : n + 1 ≡ suc n = omega arith in rw e refl

-- fewer terms
pub sum-below-fewer : (f : ℕ → ℕ) (m n : ℕ) → m ≤ n → sum_below m f ≤ sum_below n f
unfolding sum_below
sum-below-fewer f m zero h = let e : m ≡ 0 = omega arith in rw e (omega arith)
sum-below-fewer f m (suc n) h = elim (cases_eq m (suc n))
    [ inl e ↦ rw e (omega arith) | inr d ↦ omega (arith, sum-below-fewer f m n (omega arith)) ]

-- from the front
pub sum-below-front : (n : ℕ) (f : ℕ → ℕ) → sum_below (suc n) f ≡ f 0 + sum_below n (λ u. f (suc u))
unfolding sum_below
sum-below-front zero f = omega arith
sum-below-front (suc n) f = omega (arith, sum-below-front n f)

-- one term is v more
pub sum-below-pick : (n b v : ℕ) (g : ℕ → ℕ) → b < n → sum_below n (λ c. when (eqb b c) v + g c) ≡ v + sum_below n g
sum-below-pick n b v g h =
    let e = sum-below-change n b v g (λ c. when (eqb b c) v + g c) (λ u. grind (arith, nat_tests)) in
    grind (arith, nat_tests)

-- only one term
pub sum-below-one : (n b v : ℕ) → b < n → sum_below n (λ c. when (eqb b c) v) ≡ v
sum-below-one n b v h =
    let a = sum-below-change n b v (λ _. 0) (λ c. when (eqb b c) v) (λ u. grind (arith, nat_tests)) in
    grind (arith, nat_tests, sum-below-zero n (λ _. 0) (λ _. refl))

-- a term is at most the sum
pub sum-below-part : (n b : ℕ) (f : ℕ → ℕ) → b < n → f b ≤ sum_below n f
unfolding sum_below
sum-below-part zero b f h = absurd (omega arith)
sum-below-part (suc n) b f h = grind (arith, sum-below-part n b f)

-- and two terms together are
pub sum-below-parts : (n a b : ℕ) (f : ℕ → ℕ) → a < n → b < n → a ≢ b → f a + f b ≤ sum_below n f
unfolding sum_below
sum-below-parts zero a b f h k d = absurd (omega arith)
sum-below-parts (suc n) a b f h k d = grind (arith, sum-below-part n a f, sum-below-part n b f, sum-below-parts n a b f)

-- a sum of which the terms from m on are left out
pub sum-below-cut : (n m : ℕ) (f : ℕ → ℕ) → m ≤ n → sum_below n (λ u. when (ltb u m) (f u)) ≡ sum_below m f
unfolding sum_below
sum-below-cut zero m f h = let e : m ≡ 0 = omega arith in rw e refl
sum-below-cut (suc n) m f h = elim (cases_lt n m) [
  | inl l ↦ let e : m ≡ suc n = omega arith in
      rw e (sum-below-same (suc n) (λ u. when (ltb u (suc n)) (f u)) f (λ u k. grind (arith, nat_tests)))
  | inr l ↦ rw (le-ltb n m l) (omega (arith, sum-below-cut n m f l))
]

module _ {X : Type 0} where
  -- sums in either order
  pub sum-below-total : (g : ℕ → X → ℕ) (xs : List X) (n : ℕ)
      → sum_below n (λ k. sum_by (g k) xs) ≡ sum_by (λ x. sum_below n (λ k. g k x)) xs
  sum-below-total g [] n = sum-below-zero n (λ _. 0) (λ _. refl)
  sum-below-total g (x ∷ xs) n =
      sum-below-same n (λ k. sum_by (g k) (x ∷ xs)) (λ k. g k x + sum_by (g k) xs) (λ k l. sum_by-cons (g k) x xs)
      ∙ sum-below-plus n (λ k. g k x) (λ k. sum_by (g k) xs)
      ∙ omega (arith, sum-below-total g xs n, sum_by-cons (λ y. sum_below n (λ k. g k y)) x xs)

  -- sums of the same terms
  pub sum-by-same : (f g : X → ℕ) (xs : List X) (d : X) → ((i : ℕ) → i < length xs → f (get_or xs i d) ≡ g (get_or xs i d))
      → sum_by f xs ≡ sum_by g xs
  sum-by-same f g [] d same = refl
  sum-by-same f g (x ∷ xs) d same =
      omega (arith, same 0 (omega arith), sum-by-same f g xs d (λ i h. same (suc i) (omega arith)), sum_by-cons f x xs, sum_by-cons g x xs)

-- ---- lists of counts

-- before anything is counted
pub zero_at : (n i : ℕ) → slice_index (replicate n 0) i ≡ 0
zero_at (suc n) (suc i) = zero_at n i
zero_at _ _ = refl

-- one more at a place
pub one_more-at : (counts : List ℕ) (i j : ℕ) → i < length counts
    → slice_index (one_more counts i) j ≡ slice_index counts j + cond (nat_eq j i) 1 0
one_more-at counts i j lt = grind (arith, nat_tests, get_or-set_same, get_or-set_other)
