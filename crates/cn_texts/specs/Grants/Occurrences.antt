-- The numbers of an epoch's records, in the order of the records, and which of them stand at an earlier one.
use Rattle.std.specs.Prelude.{ℕ, ◌≡◌, ◌<◌, ◌+◌, ◌∷◌, [], Bool, List, MatchOption, Option, length, map, nat_eq, slice_index}
use Rattle.std.specs.List.{list_any}
use Rattle.cn_texts.specs.declared.grants.occurrences.Occurrence.{Occurrence}

-- each number with its place, from this place on
unfoldable pub occurrences_from : ℕ → List ℕ → List Occurrence
occurrences_from place [] = []
occurrences_from place (n ∷ numbers) = record { number = n; place = place } ∷ occurrences_from (place + 1) numbers

-- the numbers of these
abbrev pub numbers_of : List Occurrence → List ℕ
numbers_of occurrences = map (λ o. o.number) occurrences

-- whether the number is one of these
abbrev pub has_number : List ℕ → ℕ → Bool
has_number numbers n = list_any (nat_eq n) numbers

-- the number at this place stands at an earlier one
abbrev pub IsRepeat : List ℕ → ℕ → Type 0
IsRepeat numbers place = (before : ℕ) × (before < place) × (slice_index numbers before ≡ slice_index numbers place)

-- the first place whose number stands at an earlier one, if there is such a place
abbrev pub IsFirstRepeat : List ℕ → Option ℕ → Type 0
IsFirstRepeat numbers first = MatchOption first ((place : ℕ) → place < length numbers → IsRepeat numbers place → ⊥)
    (λ place. (place < length numbers) × IsRepeat numbers place × ((p : ℕ) → p < place → IsRepeat numbers p → ⊥))
