-- Lists of numbers, each linked with the one after it: by a function to the next, and by one to the one before.
use Rattle.std.specs.Prelude.{◌≡◌, ℕ, suc, zero, ◌++◌, ◌==◌, nat_eq, not, if◌then◌else◌, List, [], ◌∷◌, filter}

-- the numbers that are met from one on, so many of them
unfoldable pub walk : (ℕ → ℕ) → ℕ → ℕ → List ℕ
walk next zero at = []
walk next (suc n) at = at ∷ walk next n (next at)

-- the numbers but one
abbrev pub but : ℕ → List ℕ → List ℕ
but number list = filter (λ n. not (nat_eq number n)) list

-- what a number that comes to a line adds to the end of a line's list
abbrev pub last_of : ℕ → ℕ → ℕ → List ℕ
last_of number wire u = if wire == u then number ∷ [] else []

-- the lists of all lines, with a number put last on one
abbrev pub put_last : (ℕ → List ℕ) → ℕ → ℕ → ℕ → List ℕ
put_last order number wire u = order u ++ last_of number wire u

-- and with it taken out of its place before
abbrev pub moved : (ℕ → List ℕ) → ℕ → ℕ → ℕ → List ℕ
moved order number wire u = but number (order u) ++ last_of number wire u

-- the first number, or d if there is none
abbrev pub head_or : ℕ → List ℕ → ℕ
head_or d [] = d
head_or d (x ∷ xs) = x

-- the last number, or d if there is none
unfoldable pub last_or : ℕ → List ℕ → ℕ
last_or d [] = d
last_or d (x ∷ xs) = last_or x xs

-- a number and the first of those after it are linked both ways
abbrev pub Tied : (ℕ → ℕ) → (ℕ → ℕ) → ℕ → List ℕ → Type 0
Tied next prev x [] = Unit {0}
Tied next prev x (y ∷ ys) = (next x ≡ y) × (prev y ≡ x)

-- each number of a list is linked with the one after it
unfoldable pub Chain : (ℕ → ℕ) → (ℕ → ℕ) → List ℕ → Type 0
Chain next prev [] = Unit {0}
Chain next prev (x ∷ xs) = Tied next prev x xs × Chain next prev xs
