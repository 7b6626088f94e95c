-- Which records are a schedule, and what is wrong with those that are none.
use Rattle.std.specs.Prelude.{ℕ, ◌≡◌, ◌⊎◌, ◌∷◌, [], Bool, List, drop, length, map, nat_lt, Option, Some, None, Result, Ok, Err, codes, if◌then◌else◌}
use Rattle.std.specs.Cmp.Lexicographic.{pointwise}
use Rattle.std.specs.Str.{bytes_eq}
use Rattle.cn_ledger.specs.declared.command.Command.{Command}
use Rattle.cn_spec.specs.declared.limits.TheConstants.{MOST_RECORDS}
use Rattle.cn_texts.specs.Reading.Command.{command_in}
use Rattle.cn_texts.specs.Reading.Faults.{IsClean, IsFirstFault, cause_by}
use Rattle.cn_texts.specs.Reading.Records.{Record}
use Rattle.cn_texts.specs.declared.reading.records.RecordFault.{RecordFault}
use Rattle.cn_texts.specs.declared.reading.records.RecordFault.TheVariants as no_record
use Rattle.cn_texts.specs.declared.reading.schedule_fault.ScheduleCause.{ScheduleCause}
use Rattle.cn_texts.specs.declared.reading.schedule_fault.ScheduleCause.TheVariants.{Read, Header, FieldCount, Op, ClientNumber, WireNumber, ScheduleFull, Memory}
use Rattle.cn_texts.specs.declared.reading.schedule_fault.ScheduleFault.{ScheduleFault}

-- the name that a cause prints
abbrev pub cause_name : ScheduleCause → List ℕ
cause_name Read = codes "Read"
cause_name Header = codes "Header"
cause_name FieldCount = codes "FieldCount"
cause_name Op = codes "Op"
cause_name ClientNumber = codes "ClientNumber"
cause_name WireNumber = codes "WireNumber"
cause_name ScheduleFull = codes "ScheduleFull"
cause_name Memory = codes "Memory"

-- the cause for which no record came
abbrev pub cause_of_fault : RecordFault → ScheduleCause
cause_of_fault no_record.Read = Read
cause_of_fault no_record.Memory = Memory

-- the fields of the header of a schedule
abbrev pub is_schedule_header : Record → Bool
is_schedule_header fields = pointwise bytes_eq fields (codes "op" ∷ codes "client" ∷ codes "wire" ∷ [])

-- the cause of record 0
abbrev pub header_cause : Record → Option ScheduleCause
header_cause fields = if is_schedule_header fields then None else Some Header

-- the cause of a later record, by its number and by what it spells
abbrev pub command_cause : ℕ → Result Command ScheduleCause → Option ScheduleCause
command_cause at (Err cause) = Some cause
command_cause at (Ok command) = if nat_lt MOST_RECORDS at then Some ScheduleFull else None

-- the cause of a record after those before it
abbrev pub record_cause : List Record → Record → Option ScheduleCause
record_cause before fields = command_cause (length before) (command_in fields)

-- the first cause of the record with this number, if it has one
abbrev pub schedule_cause : List Record → ℕ → Option ScheduleCause
schedule_cause = cause_by header_cause record_cause

-- no record's fault: the reader failed, or a growth was refused
abbrev pub IsOfReading : ScheduleCause → Type 0
IsOfReading cause = (cause ≡ Read) ⊎ (cause ≡ Memory)

-- the records are a schedule of these commands: none has a cause, and those after the header spell the commands
pub record IsSchedule (records : List Record) (commands : List Command) : Type 0 where
  pub clean : IsClean schedule_cause records
  pub spells : map command_in (drop 1 records) ≡ map Ok commands

-- the fault gives the first record with a cause, and its first cause
abbrev pub IsScheduleFault : List Record → ScheduleFault → Type 0
IsScheduleFault records fault = IsFirstFault schedule_cause IsOfReading records fault.at fault.cause
