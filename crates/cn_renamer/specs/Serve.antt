-- The faults of a run that does not write its text whole.
use Rattle.std.specs.Prelude.{ℕ, ◌≢◌, Bool, IfSome, List, Option}
use Rattle.cn_texts.specs.Reading.Batch.{IsBatchFault}
use Rattle.cn_texts.specs.Reading.Bounds.{bounds_of}
use Rattle.cn_texts.specs.Reading.Records.{records_of}
use Rattle.cn_texts.specs.declared.reading.batch_fault.BatchCause.{BatchCause}
use Rattle.cn_texts.specs.declared.reading.batch_fault.BatchCause.TheVariants as cause
use Rattle.cn_texts.specs.declared.reading.batch_fault.BatchFault.{BatchFault}
use Rattle.cn_texts.specs.Writing.Written.{Written, First, Nothing}
use Rattle.cn_nets.specs.Net.{Description, entries_of}
use Rattle.cn_renamer.specs.declared.serve_fault.ServeFault.{ServeFault}
use Rattle.cn_renamer.specs.declared.serve_fault.ServeFault.TheVariants.{Batch, Memory, Write}

-- how much of its text a run has written that met a fault
abbrev pub until_serve : ServeFault → Written
until_serve (Batch fault) = Nothing
until_serve Memory = Nothing
until_serve (Write written) = First written

-- a batch that is refused has its own fault, which is never want of memory
abbrev pub IsServeFault : Description → Bool → Option (List ℕ) → ServeFault → Type 0
IsServeFault net large known (Batch fault) =
    (fault.cause ≢ cause.Memory)
    × IfSome known (λ bytes. IsBatchFault (bounds_of large (entries_of net.kind net.width)) (records_of bytes) fault)
IsServeFault net large known Memory = Unit {0}
IsServeFault net large known (Write written) = Unit {0}

-- the fault of a run by that of the batch; want of memory is a fault of its own
abbrev pub fault_of_cause : BatchFault → BatchCause → ServeFault
fault_of_cause fault cause.Memory = Memory
fault_of_cause fault cause.Read = Batch fault
fault_of_cause fault cause.Header = Batch fault
fault_of_cause fault cause.FieldCount = Batch fault
fault_of_cause fault cause.EpochNumber = Batch fault
fault_of_cause fault cause.ClientNumber = Batch fault
fault_of_cause fault cause.EntryNumber = Batch fault
fault_of_cause fault cause.EpochBackwards = Batch fault
fault_of_cause fault cause.EntryRange = Batch fault
fault_of_cause fault cause.Duplicate = Batch fault
fault_of_cause fault cause.EpochFull = Batch fault
fault_of_cause fault cause.BatchFull = Batch fault

-- the fault of a run by that of its batch
abbrev pub fault_of_batch : BatchFault → ServeFault
fault_of_batch fault = fault_of_cause fault fault.cause

-- the status that a fault ends the program with
abbrev pub status_of_serve : ServeFault → ℕ
status_of_serve (Batch fault) = 1
status_of_serve Memory = 3
status_of_serve (Write written) = 3
