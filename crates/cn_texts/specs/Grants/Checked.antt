-- What was seen of a grant list so far.
use Rattle.std.specs.Prelude.{ℕ, ◌≡◌, ◌<◌, ◌≤◌, ◌+◌, ◌++◌, ◌∷◌, ◌⊎◌, [], List, length, map, nat_lt, slice_get, take, Option, Some, None, if◌then◌else◌}
use Rattle.std.specs.List.{AllByRecursion}
use Rattle.cn_texts.specs.Grants.Granted.{last_epoch, twice_cause}
use Rattle.cn_texts.specs.Grants.TightList.{Lacks, flaw_of}
use Rattle.cn_texts.specs.Grants.Printed.{epoch_numbers, named_epoch, plain_named}
use Rattle.cn_texts.specs.Grants.Occurrences.{occurrences_from}
use Rattle.cn_texts.specs.declared.grants.record.Granted.{Granted}
use Rattle.cn_texts.specs.declared.grants.record.GrantCause.{GrantCause}
use Rattle.cn_texts.specs.declared.grants.record.Flaw.{Flaw}
use Rattle.cn_texts.specs.declared.grants.epochs.Gap.{Gap}
use Rattle.cn_texts.specs.declared.grants.epochs.Granting.{Granting}

-- the least epoch below this one that lacks a name, and the least name that it lacks
pub record IsLeastGap (end : ℕ) (grants : List Granted) (gap : Gap) : Type 0 where
  pub below : gap.epoch < end
  pub lacks : Lacks grants gap.epoch gap.name
  pub first : (e n : ℕ) → e < end → Lacks grants e n → gap.epoch ≤ e
  pub least : (n : ℕ) → Lacks grants gap.epoch n → gap.name ≤ n

-- the first gap of the epochs below this one, if they have one
abbrev pub IsGapBelow : ℕ → List Granted → Option Gap → Type 0
IsGapBelow end grants None = (e n : ℕ) → e < end → Lacks grants e n → ⊥
IsGapBelow end grants (Some gap) = IsLeastGap end grants gap

-- how many grants were added
abbrev pub count_of : Granting → ℕ
count_of g = g.before + length g.clients.items

-- the grants of earlier epochs are counted, the clients and the names of the latest epoch stand in order, and the gap
-- is the first before it
pub record HoldsGrants (g : Granting) (earlier latest : List Granted) : Type 0 where
  pub before : g.before ≡ length earlier
  pub below : AllByRecursion (λ x. x.epoch < g.latest) earlier
  pub here : AllByRecursion (λ x. x.epoch ≡ g.latest) latest
  pub clients : g.clients.items ≡ occurrences_from 0 (map (λ x. x.client) latest)
  pub names : g.names.items ≡ occurrences_from 0 (map (λ x. x.name) latest)
  pub gap : IsGapBelow g.latest (earlier ++ latest) g.gap

-- the latest epoch, if it has grants
abbrev pub latest_number : ℕ → ℕ → List ℕ
latest_number latest count = if nat_lt 0 count then latest ∷ [] else []

-- its number and its number of clients, if it has grants
abbrev pub latest_seen : ℕ → ℕ → List (ℕ × ℕ)
latest_seen latest count = if nat_lt 0 count then (latest, count) ∷ [] else []

-- these are the numbers of the epochs before the latest, and their numbers of clients
pub record AreSeen (ended : List (ℕ × ℕ)) (latest count : ℕ) (grants : List Granted) : Type 0 where
  pub numbers : epoch_numbers grants ≡ map (λ p. p.0) ended ++ latest_number latest count
  pub seen : ended ≡ map (named_epoch grants) (map (λ p. p.0) ended)
  pub below : AllByRecursion (λ p. p.0 < latest) ended

-- they are, if no gap was found
abbrev pub Tells : Granting → List Granted → List Granted → Type 0
Tells g earlier latest =
    g.gap ≡ None → AreSeen (map plain_named g.ended.items) g.latest (length latest) (earlier ++ latest)

-- and the latest epoch is that of the last grant
pub record IsChecked (g : Granting) (earlier latest : List Granted) : Type 0 where
  pub holds : HoldsGrants g earlier latest
  pub last : last_epoch (earlier ++ latest) ≡ g.latest
  pub tells : Tells g earlier latest

-- of the latest grants, after those of earlier epochs, those before this place have no client and no name twice
abbrev pub AreFreshBefore : List Granted → List Granted → ℕ → Type 0
AreFreshBefore earlier latest end = (i : ℕ) (grant : Granted) → i < end → slice_get latest i ≡ Some grant
    → twice_cause (earlier ++ take i latest) grant ≡ None

-- all of them
abbrev pub AreFresh : List Granted → List Granted → Type 0
AreFresh earlier latest = AreFreshBefore earlier latest (length latest)

-- the flaw is that of the first with a client or a name that is there before
pub record IsTwice (earlier latest : List Granted) (flaw : Flaw) : Type 0 where
  pub place : ℕ
  pub grant : Granted
  pub cause : GrantCause
  pub there : slice_get latest place ≡ Some grant
  pub fresh : AreFreshBefore earlier latest place
  pub twice : twice_cause (earlier ++ take place latest) grant ≡ Some cause
  pub is : flaw ≡ flaw_of (length earlier + 1 + place) cause

-- what is known once it came to an epoch: the same, or the latest grants are earlier ones now
abbrev pub Turns : Granting → List Granted → List Granted → Type 0
Turns g earlier latest =
    (HoldsGrants g earlier latest × Tells g earlier latest)
    ⊎ (AreFresh earlier latest × HoldsGrants g (earlier ++ latest) [] × Tells g (earlier ++ latest) [])

-- and with one grant more
abbrev pub IsCheckedWith : Granting → List Granted → List Granted → Granted → Type 0
IsCheckedWith g earlier latest grant =
    IsChecked g earlier (latest ++ grant ∷ [])
    ⊎ (AreFresh earlier latest × IsChecked g (earlier ++ latest) (grant ∷ []))
