-- What a tight list says of its epochs.
use Rattle.std.specs.Prelude.{ℕ, ◌≡◌, ◌∷◌, [], List, drop, length, map, ◌++◌, nat_eq, if◌then◌else◌}
use Rattle.std.specs.List.{fold, list_any}
use Rattle.cn_spec.specs.Step.{counts_of, shares}
use Rattle.cn_texts.specs.Grants.Granted.{grants_spelled, of_epoch}
use Rattle.cn_texts.specs.Grants.TightList.{IsTightList}
use Rattle.cn_texts.specs.Reading.Records.{Record}
use Rattle.cn_texts.specs.declared.grants.record.Granted.{Granted}
use Rattle.cn_texts.specs.declared.grants.epochs.NamedEpoch.{NamedEpoch}

-- the numbers, and this one if it is not among them
abbrev pub with_number : List ℕ → ℕ → List ℕ
with_number numbers n = if list_any (nat_eq n) numbers then numbers else numbers ++ n ∷ []

-- the epochs' numbers, each once, in the order of the grants
abbrev pub epoch_numbers : List Granted → List ℕ
epoch_numbers grants = fold (λ numbers g. with_number numbers g.epoch) [] grants

-- an epoch: its number, and how many clients it has
abbrev pub named_epoch : List Granted → ℕ → ℕ × ℕ
named_epoch grants e = (e, length (of_epoch e grants))

-- an epoch: its number, how many clients it has, and how many of its names are i modulo the width
abbrev pub printed_epoch : ℕ → List Granted → ℕ → ℕ × ℕ × List ℕ
printed_epoch width grants e = (e, length (of_epoch e grants), counts_of width (map (λ g. g.name) (of_epoch e grants)))

-- an epoch, by its number and its number of clients
abbrev pub plain_named : NamedEpoch → ℕ × ℕ
plain_named epoch = (epoch.number, epoch.clients)

-- the same, and the share of each remainder in so many names
abbrev pub with_shares : ℕ → NamedEpoch → ℕ × ℕ × List ℕ
with_shares width epoch = (epoch.number, epoch.clients, shares epoch.clients width)

-- what the records say of their epochs, in order
abbrev pub printed_epochs : ℕ → List Record → List (ℕ × ℕ × List ℕ)
printed_epochs width records =
    map (printed_epoch width (grants_spelled (drop 1 records))) (epoch_numbers (grants_spelled (drop 1 records)))

-- the records are a tight list, and these are its epochs: by any width the counts of each are shares
pub record IsNamedList (most : ℕ) (records : List Record) (epochs : List NamedEpoch) : Type 0 where
  pub tight : IsTightList most records
  pub printed : (width : ℕ) → map (with_shares width) epochs ≡ printed_epochs width records
