-- Which records are a batch, and what is wrong with those that are none.
use Rattle.std.specs.Prelude.{ℕ, ◌≡◌, ◌<◌, ◌≤◌, ◌⊎◌, ◌∷◌, [], All, List, drop, length, map, Option, Some, None, Result, MatchResult, codes, ⊤}
use Rattle.std.specs.List.{AllByRecursion, flat_map, sum_by}
use Rattle.cn_ledger.specs.declared.client.Client.{Client}
use Rattle.cn_spec.specs.Sums.{times}
use Rattle.cn_texts.specs.Reading.Arrival.{arrival_in, arrivals_in, spelled_cause}
use Rattle.cn_texts.specs.Reading.Faults.{IsClean, IsFirstFault, cause_by}
use Rattle.cn_texts.specs.Reading.Heading.{heading_in, heading_of}
use Rattle.cn_texts.specs.Reading.Records.{Record}
use Rattle.cn_texts.specs.declared.reading.bounds.Bounds.{Bounds}
use Rattle.cn_texts.specs.declared.reading.batch.arrival.Arrival.{Arrival}
use Rattle.cn_texts.specs.declared.reading.batch.arrival.Heading.{Heading}
use Rattle.cn_texts.specs.declared.reading.records.RecordFault.{RecordFault}
use Rattle.cn_texts.specs.declared.reading.records.RecordFault.TheVariants as no_record
use Rattle.cn_texts.specs.declared.reading.batch_fault.BatchCause.{BatchCause}
use Rattle.cn_texts.specs.declared.reading.batch_fault.BatchCause.TheVariants.{Read, Header, FieldCount, EpochNumber, ClientNumber, EntryNumber, EpochBackwards, EntryRange, Duplicate, EpochFull, BatchFull, Memory}
use Rattle.cn_texts.specs.declared.reading.batch_fault.BatchFault.{BatchFault}
use Rattle.cn_texts.specs.declared.reading.batch.Batch.{Batch}
use Rattle.cn_texts.specs.declared.reading.batch.BatchEpoch.{BatchEpoch}

-- the name that a cause prints
abbrev pub batch_cause_name : BatchCause → List ℕ
batch_cause_name Read = codes "Read"
batch_cause_name Header = codes "Header"
batch_cause_name FieldCount = codes "FieldCount"
batch_cause_name EpochNumber = codes "EpochNumber"
batch_cause_name ClientNumber = codes "ClientNumber"
batch_cause_name EntryNumber = codes "EntryNumber"
batch_cause_name EpochBackwards = codes "EpochBackwards"
batch_cause_name EntryRange = codes "EntryRange"
batch_cause_name Duplicate = codes "Duplicate"
batch_cause_name EpochFull = codes "EpochFull"
batch_cause_name BatchFull = codes "BatchFull"
batch_cause_name Memory = codes "Memory"

-- the cause for which no record came
abbrev pub batch_cause_of_fault : RecordFault → BatchCause
batch_cause_of_fault no_record.Read = Read
batch_cause_of_fault no_record.Memory = Memory

-- the cause of record 0, which is to head a batch
abbrev pub cause_of_heading : Option Heading → Option BatchCause
cause_of_heading (Some heading) = None
cause_of_heading None = Some Header

-- the cause of record 0 by its fields
abbrev pub header_cause : Record → Option BatchCause
header_cause fields = cause_of_heading (heading_of fields)

-- the cause of a record after those before it, the header first
abbrev pub record_cause : Bounds → List Record → Record → Option BatchCause
record_cause bounds before fields =
    spelled_cause bounds (arrivals_in (heading_in before) bounds (drop 1 before))
    (arrival_in (heading_in before) bounds fields)

-- the first cause of the record with this number, if it has one
abbrev pub batch_cause : Bounds → List Record → ℕ → Option BatchCause
batch_cause bounds = cause_by header_cause (record_cause bounds)

-- no record's fault: the reader failed, or a growth was refused
abbrev pub IsOfReading : BatchCause → Type 0
IsOfReading cause = (cause ≡ Read) ⊎ (cause ≡ Memory)

-- the arrivals of an epoch's clients
abbrev pub arrivals_of : BatchEpoch → List Arrival
arrivals_of epoch = map (λ c. record { epoch = epoch.number; client = c.id; entry = c.entry }) epoch.clients.items

-- each epoch's number is below those of the epochs after it
unfoldable pub AreRising : List BatchEpoch → Type 0
AreRising [] = ⊤
AreRising (epoch ∷ later) = AllByRecursion (λ e. epoch.number < e.number) later × AreRising later

-- these epochs spell these arrivals: the numbers rise, each epoch has some client, and the clients are the arrivals in
-- their order
pub record AreEpochsOf (epochs : List BatchEpoch) (arrivals : List Arrival) : Type 0 where
  pub rising : AreRising epochs
  pub some : AllByRecursion (λ e. 0 < length e.clients.items) epochs
  pub spells : flat_map arrivals_of epochs ≡ arrivals

-- these clients may come in one epoch within these bounds: no more than an epoch takes, each by one of the network's
-- entries, and none twice
pub record MayCome (bounds : Bounds) (clients : List Client) : Type 0 where
  pub few : length clients ≤ bounds.clients
  pub within : All (λ c. c.entry < bounds.entries) clients
  pub once : (client : ℕ) → times client (map (λ c. c.id) clients) ≤ 1

-- these epochs can be served, one after another: the numbers rise, each has some client, and its clients may come
pub record AreServable (bounds : Bounds) (epochs : List BatchEpoch) : Type 0 where
  pub rising : AreRising epochs
  pub some : All (λ e. 0 < length e.clients.items) epochs
  pub come : All (λ e. MayCome bounds e.clients.items) epochs

-- how many clients epochs have
abbrev pub clients_of_epochs : List BatchEpoch → ℕ
clients_of_epochs epochs = sum_by (λ e. length e.clients.items) epochs

-- the records are a batch of these epochs: none has a cause, and the epochs spell those after the header
pub record IsBatch (bounds : Bounds) (records : List Record) (epochs : List BatchEpoch) : Type 0 where
  pub clean : IsClean (batch_cause bounds) records
  pub holds : AreEpochsOf epochs (arrivals_in (heading_in records) bounds (drop 1 records))

-- the fault gives the first record with a cause, and its first cause
abbrev pub IsBatchFault : Bounds → List Record → BatchFault → Type 0
IsBatchFault bounds records fault = IsFirstFault (batch_cause bounds) IsOfReading records fault.at fault.cause

-- what these records answer: the epochs that they are a batch of, or their fault
abbrev pub AnswersBatch : Bounds → List Record → Result Batch BatchFault → Type 0
AnswersBatch bounds records result =
    MatchResult result (λ batch. IsBatch bounds records batch.epochs.items) (IsBatchFault bounds records)

-- what an epoch is: its number and its clients
abbrev pub plain_epoch : BatchEpoch → ℕ × List Client
plain_epoch epoch = (epoch.number, epoch.clients.items)
