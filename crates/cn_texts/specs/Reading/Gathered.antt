-- What was gathered of a batch so far.
use Rattle.std.specs.Prelude.{◌≡◌, ◌<◌, ◌≤◌, ◌+◌, ◌++◌, ◌∷◌, [], List, length, map, nat_eq, nat_lt, nat_le, Option, Some, None, if◌then◌else◌}
use Rattle.std.specs.List.{AllByRecursion, flat_map, list_any}
use Rattle.cn_ledger.specs.declared.client.Client.{Client}
use Rattle.cn_texts.specs.Reading.Arrival.{last_epoch}
use Rattle.cn_texts.specs.Reading.Batch.{AreRising, AreServable, MayCome, arrivals_of, clients_of_epochs}
use Rattle.cn_texts.specs.Reading.Bounds.{AreBounds}
use Rattle.cn_texts.specs.declared.reading.bounds.Bounds.{Bounds}
use Rattle.cn_texts.specs.declared.reading.batch.BatchEpoch.{BatchEpoch}
use Rattle.cn_texts.specs.declared.reading.batch.arrival.Arrival.{Arrival}
use Rattle.cn_texts.specs.declared.reading.batch.gathering.Gathering.{Gathering}
use Rattle.cn_texts.specs.declared.reading.batch_fault.BatchCause.{BatchCause}
use Rattle.cn_texts.specs.declared.reading.batch_fault.BatchCause.TheVariants.{Duplicate, EpochFull, BatchFull}

-- the gathering holds these arrivals: those of the epochs that ended, and then those of the latest
pub record HoldsArrivals (g : Gathering) (arrivals : List Arrival) : Type 0 where
  pub spells : flat_map arrivals_of g.ended.items ++ arrivals_of g.latest ≡ arrivals
  pub rising : AreRising g.ended.items
  pub some : AllByRecursion (λ e. 0 < length e.clients.items) g.ended.items
  pub below : AllByRecursion (λ e. e.number < g.latest.number) g.ended.items
  pub standing : g.standing.keys ≡ map (λ c. c.id) g.latest.clients.items

-- and they are all that came: the latest epoch is that of the last of them, and the next record is the one after theirs
pub record IsGathered (g : Gathering) (arrivals : List Arrival) : Type 0 where
  pub holds : HoldsArrivals g arrivals
  pub last : last_epoch arrivals ≡ g.latest.number
  pub next : length arrivals + 1 ≡ g.next

-- what the gathering keeps whatever was read: the epochs that ended can be served, and the clients of the latest, whose
-- number is greater, may come; all of them are as many as the records so far, and no more than a batch has
pub record StaysServable (bounds : Bounds) (g : Gathering) : Type 0 where
  pub within : AreBounds bounds
  pub ended : AreServable bounds g.ended.items
  pub below : AllByRecursion (λ e. e.number < g.latest.number) g.ended.items
  pub latest : MayCome bounds g.latest.clients.items
  pub standing : g.standing.keys ≡ map (λ c. c.id) g.latest.clients.items
  pub count : clients_of_epochs g.ended.items + length g.latest.clients.items + 1 ≡ g.next
  pub few : g.next ≤ bounds.records + 1

-- the epochs that have ended once the latest does
abbrev pub ended_after : Gathering → List BatchEpoch
ended_after g = if nat_lt 0 (length g.latest.clients.items) then g.ended.items ++ g.latest ∷ [] else g.ended.items

-- the cause of a client of the latest epoch that is the next record
abbrev pub adding_cause : Bounds → Gathering → Client → Option BatchCause
adding_cause bounds g c =
    if list_any (nat_eq c.id) g.standing.keys then Some Duplicate
    else if nat_le bounds.clients (length g.latest.clients.items) then Some EpochFull
    else if nat_lt bounds.records g.next then Some BatchFull
    else None
