-- Epochs that can be written as a tight list, and what a check reports of them.
use Rattle.std.specs.Prelude.{ℕ, All, ◌<◌, ◌≤◌, ◌^◌, List, [], ◌∷◌, ⊤, drop, length, map}
use Rattle.std.specs.List.{AllByRecursion}
use Rattle.cn_spec.specs.Step.{shares}
use Rattle.cn_spec.specs.Sums.{times}
use Rattle.cn_ledger.specs.declared.record.EpochRecord.{EpochRecord}
use Rattle.cn_texts.specs.Grants.Granted.{grants_spelled, of_epoch}
use Rattle.cn_texts.specs.Reading.Records.{Record}
use Rattle.cn_texts.specs.Writing.Report.{clients_of_records}
use Rattle.cn_texts.specs.declared.reading.batch.BatchEpoch.{BatchEpoch}
use Rattle.cn_report.specs.Callers.{HasHolders}

-- an epoch's clients hold its names, one each, and its numbers are of 64 bits
pub record HasOwnNames (r : EpochRecord) : Type 0 where
  pub number : r.number < 2 ^ 64
  pub clients : All (λ client. client < 2 ^ 64) r.holders.items
  pub holders : HasHolders r
  pub once : (client : ℕ) → times client r.holders.items ≤ 1

-- the number of each is below those of the epochs after it
unfoldable pub AreRisingRecords : List EpochRecord → Type 0
AreRisingRecords [] = ⊤
AreRisingRecords (r ∷ later) = AllByRecursion (λ s. r.number < s.number) later × AreRisingRecords later

-- the epochs can be written as a tight list of so many grants at most
pub record AreTightRecords (most : ℕ) (records : List EpochRecord) : Type 0 where
  pub rising : AreRisingRecords records
  pub names : AllByRecursion HasOwnNames records
  pub few : clients_of_records records ≤ most

-- what a check says of an epoch: its number, its number of clients, and how many of its names are those of each exit
abbrev pub checked_epoch : ℕ → EpochRecord → ℕ × ℕ × List ℕ
checked_epoch width r = (r.number, r.clients, shares r.clients width)

-- the names that the records give in an epoch
abbrev pub names_in : ℕ → List Record → List ℕ
names_in epoch records = map (λ g. g.name) (of_epoch epoch (grants_spelled (drop 1 records)))

-- what a check of the grant list says of an epoch of a run: its number, its k clients, and for each exit how many of
-- its names n have `n % w` equal to the exit, which is the exit's share, with carry too
abbrev pub served_epoch : ℕ → BatchEpoch → ℕ × ℕ × List ℕ
served_epoch w epoch = (epoch.number, length epoch.clients.items, shares (length epoch.clients.items) w)
