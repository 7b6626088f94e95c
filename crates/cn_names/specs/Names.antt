-- A finite map from clients to their standings, as the list of its entries in the order of admission.
use Rattle.std.specs.Prelude.{◌≡◌, ℕ, Bool, true, false, nat_eq, List, Option, Some}
use Rattle.std.specs.Map.{lookup, set_value}
use Rattle.cn_names.specs.declared.standing.Standing.{Standing}
use Rattle.cn_names.specs.declared.standing.Standing.TheVariants.{Walking, Holds}

-- the standing of a client, if it has one
abbrev pub standing_of_client : List (ℕ × Standing) → ℕ → Option Standing
standing_of_client names client = lookup (nat_eq client) names

-- the token of a client is on its way
abbrev pub IsWalking : List (ℕ × Standing) → ℕ → Type 0
IsWalking names client = (token : ℕ) × (standing_of_client names client ≡ Some (Walking token))

-- the client with another standing
abbrev pub with_standing : List (ℕ × Standing) → ℕ → Standing → List (ℕ × Standing)
with_standing names client standing = set_value (nat_eq client) names standing

-- whether a standing is a token on its way
abbrev pub is_walking : Standing → Bool
is_walking (Walking token) = true
is_walking (Holds name) = false
