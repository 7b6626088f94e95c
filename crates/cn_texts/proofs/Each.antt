-- What is true of each element of a list, by recursion on the list, and whether a number is among them.
use Rattle.cn_texts.proofs.Common.{◌≡◌, ◌<◌, ◌≤◌, ◌||◌, ℕ, List, [], ◌∷◌, ◌++◌, true, false, arith, ap, map, refl, eq-eqb, ne_eqb, AllByRecursion, list_any, nat_eq, nat_tests, times, times-cons, times-nil}
use Rattle.std.proofs.lemmas.Bool.{or_right}

pub each-weaker : {X : Type 0} (P Q : X → Type 0) → ((x : X) → P x → Q x) → (xs : List X) → AllByRecursion P xs
    → AllByRecursion Q xs
each-weaker P Q f [] all = tt
each-weaker P Q f (x ∷ xs) all = (f x all.0, each-weaker P Q f xs all.1)

pub each-append : {X : Type 0} (P : X → Type 0) (xs ys : List X) → AllByRecursion P xs → AllByRecursion P ys
    → AllByRecursion P (xs ++ ys)
each-append P [] ys all others = others
each-append P (x ∷ xs) ys all others = (all.0, each-append P xs ys all.1 others)

-- a number that is among them comes some times, and another never
pub present : (n : ℕ) (ns : List ℕ) → list_any (nat_eq n) ns ≡ true → 1 ≤ times n ns
present n [] h = cc h
present n (m ∷ ns) h = grind (arith, nat_tests, h, times-cons n m ns, present n ns)

pub absent : (n : ℕ) (ns : List ℕ) → list_any (nat_eq n) ns ≡ false → times n ns ≡ 0
absent n [] h = times-nil n
absent n (m ∷ ns) h = grind (arith, nat_tests, h, times-cons n m ns, absent n ns)

pub any-map : {X : Type 0} (f : X → ℕ) (n : ℕ) (xs : List X)
    → list_any (nat_eq n) (map f xs) ≡ list_any (λ x. nat_eq n (f x)) xs
any-map f n [] = refl
any-map f n (x ∷ xs) = ap (λ b. nat_eq n (f x) || b) (any-map f n xs)

-- the last of them is there, and a number above all of them is not
pub last-there : (n : ℕ) (ns : List ℕ) → list_any (nat_eq n) (ns ++ n ∷ []) ≡ true
last-there n [] = rw (eq-eqb n n refl) refl
last-there n (m ∷ ns) = or_right (nat_eq n m) (list_any (nat_eq n) (ns ++ n ∷ [])) (last-there n ns)

pub not-there : {X : Type 0} (f : X → ℕ) (n : ℕ) (xs : List X) → AllByRecursion (λ x. f x < n) xs
    → list_any (λ x. nat_eq n (f x)) xs ≡ false
not-there f n [] all = refl
not-there f n (x ∷ xs) all = rw (ne_eqb n (f x) (λ e. omega (arith, e, all.0))) (not-there f n xs all.1)
