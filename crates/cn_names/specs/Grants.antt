-- The names that clients hold, and their clients listed by name.
use Rattle.std.specs.Prelude.{◌≡◌, ℕ, ◌<◌, ◌≤◌, ◌⊎◌, List, [], ◌∷◌, map, AllPairs, IsPermutation}
use Rattle.cn_names.specs.declared.standing.Standing.{Standing}
use Rattle.cn_names.specs.declared.standing.Standing.TheVariants.{Walking, Holds}

-- the name and the client of each client that holds a name, in the order of admission
abbrev pub grants_in : List (ℕ × Standing) → List (ℕ × ℕ)
grants_in [] = []
grants_in ((client, Walking token) ∷ names) = grants_in names
grants_in ((client, Holds name) ∷ names) = (name, client) ∷ grants_in names

-- each grant has a lower name than any later one, or the same name and no higher client
abbrev pub IsRising : List (ℕ × ℕ) → Type 0
IsRising grants = AllPairs (λ a b. (a.0 < b.0) ⊎ ((a.0 ≡ b.0) × (a.1 ≤ b.1))) grants

-- the clients that hold names, by rising name
pub record ListsByName (names : List (ℕ × Standing)) (clients : List ℕ) : Type 0 where
  pub grants : List (ℕ × ℕ)
  pub all : IsPermutation (grants_in names) grants
  pub rising : IsRising grants
  pub listed : clients ≡ map (λ grant. grant.1) grants
