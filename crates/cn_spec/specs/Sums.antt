-- Sums over lists and ranges, how often something stands in a list, and lists of counts.
use Rattle.std.specs.Prelude.{◌≡◌, ℕ, suc, zero, ◌+◌, ◌<◌, ◌==◌, Bool, cond, nat_lt, List, [], ◌∷◌, slice_index, slice_set}

-- n if the test holds, and otherwise 0
abbrev pub when : Bool → ℕ → ℕ
when b n = cond b n 0

-- the sum of f over the places at which the list has a member that passes
unfoldable pub total_where : {A : Type 0} → (A → Bool) → List A → (ℕ → ℕ) → ℕ
total_where p [] f = 0
total_where p (x ∷ xs) f = when (p x) (f 0) + total_where p xs (λ u. f (suc u))

-- how often w stands in a list
unfoldable pub times : ℕ → List ℕ → ℕ
times w [] = 0
times w (x ∷ xs) = when (x == w) 1 + times w xs

-- f 0 + .. + f (n - 1)
unfoldable pub sum_below : ℕ → (ℕ → ℕ) → ℕ
sum_below zero f = 0
sum_below (suc n) f = sum_below n f + f n

-- f and g agree below n
abbrev pub Agree : ℕ → (ℕ → ℕ) → (ℕ → ℕ) → Type 0
Agree n f g = (u : ℕ) → u < n → f u ≡ g u

-- 1 for a number below m, and otherwise 0
abbrev pub once_below : ℕ → ℕ → ℕ
once_below m n = when (nat_lt n m) 1

-- each number below m stands in the list once, and no other number does
abbrev pub IsOnceBelow : ℕ → List ℕ → Type 0
IsOnceBelow m xs = (n : ℕ) → times n xs ≡ once_below m n

-- one more at a place of a list of counts
abbrev pub one_more : List ℕ → ℕ → List ℕ
one_more counts at = slice_set counts at (slice_index counts at + 1)
