-- What the records of a batch say, one by one.
use Rattle.std.specs.Prelude.{ℕ, ◌%◌, ◌==◌, ◌∷◌, [], List, length, nat_lt, nat_le, Option, Some, None, Result, Ok, Err, if◌then◌else◌}
use Rattle.std.specs.List.{filter, filter_map, fold, list_any}
use Rattle.std.specs.Result.{result_ok}
use Rattle.cn_texts.specs.Reading.Number.{number_in}
use Rattle.cn_texts.specs.Reading.Records.{Record}
use Rattle.cn_texts.specs.declared.reading.bounds.Bounds.{Bounds}
use Rattle.cn_texts.specs.declared.reading.batch.arrival.Arrival.{Arrival}
use Rattle.cn_texts.specs.declared.reading.batch.arrival.Heading.{Heading}
use Rattle.cn_texts.specs.declared.reading.batch.arrival.Heading.TheVariants.{WithEntry, ByRule}
use Rattle.cn_texts.specs.declared.reading.batch_fault.BatchCause.{BatchCause}
use Rattle.cn_texts.specs.declared.reading.batch_fault.BatchCause.TheVariants.{FieldCount, EpochNumber, ClientNumber, EntryNumber, EpochBackwards, EntryRange, Duplicate, EpochFull, BatchFull}

-- the arrival that these three numbers make
abbrev pub arriving : Option ℕ → Option ℕ → Option ℕ → Result Arrival BatchCause
arriving None client entry = Err EpochNumber
arriving (Some epoch) None entry = Err ClientNumber
arriving (Some epoch) (Some client) None = Err EntryNumber
arriving (Some epoch) (Some client) (Some entry) = Ok (record { epoch = epoch; client = client; entry = entry })

-- the entry of a client by rule: its identity modulo the number of entries
abbrev pub entry_by_rule : ℕ → Option ℕ → Option ℕ
entry_by_rule entries None = None
entry_by_rule entries (Some client) = Some (client % entries)

-- the arrival that a record of three numbers spells, or what is wrong with it
unfoldable pub arrival_with_entry : Record → Result Arrival BatchCause
arrival_with_entry (epoch ∷ client ∷ entry ∷ []) = arriving (number_in epoch) (number_in client) (number_in entry)
arrival_with_entry fields = Err FieldCount

-- the arrival that a record of two numbers spells, its entry by rule, or what is wrong with it
unfoldable pub ruled_arrival : ℕ → Record → Result Arrival BatchCause
ruled_arrival entries (epoch ∷ client ∷ []) =
    arriving (number_in epoch) (number_in client) (entry_by_rule entries (number_in client))
ruled_arrival entries fields = Err FieldCount

-- the arrival that a record spells under a heading, or what is wrong with it
abbrev pub arrival_in : Heading → Bounds → Record → Result Arrival BatchCause
arrival_in WithEntry bounds fields = arrival_with_entry fields
arrival_in ByRule bounds fields = ruled_arrival bounds.entries fields

-- the arrivals of these records
abbrev pub arrivals_in : Heading → Bounds → List Record → List Arrival
arrivals_in heading bounds records = filter_map (λ fields. result_ok (arrival_in heading bounds fields)) records

-- those of them that come in this epoch
abbrev pub of_epoch : ℕ → List Arrival → List Arrival
of_epoch epoch arrivals = filter (λ a. a.epoch == epoch) arrivals

-- the epoch of the last of them, and 0 if there is none
abbrev pub last_epoch : List Arrival → ℕ
last_epoch arrivals = fold (λ epoch a. a.epoch) 0 arrivals

-- the cause of an arrival after those before it
unfoldable pub arrival_cause : Bounds → List Arrival → Arrival → Option BatchCause
arrival_cause bounds before a =
    if nat_lt a.epoch (last_epoch before) then Some EpochBackwards
    else if nat_le bounds.entries a.entry then Some EntryRange
    else if list_any (λ b. a.client == b.client) (of_epoch a.epoch before) then Some Duplicate
    else if nat_le bounds.clients (length (of_epoch a.epoch before)) then Some EpochFull
    else if nat_le bounds.records (length before) then Some BatchFull
    else None

-- the cause of what a record spells, after the arrivals before it
abbrev pub spelled_cause : Bounds → List Arrival → Result Arrival BatchCause → Option BatchCause
spelled_cause bounds before (Err cause) = Some cause
spelled_cause bounds before (Ok arrival) = arrival_cause bounds before arrival
