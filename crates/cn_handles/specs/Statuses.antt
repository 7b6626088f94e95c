-- The statuses of refused calls.
use Rattle.std.specs.Prelude.{ℕ}
use Rattle.cn_floor.specs.declared.fault.LaneFault.{LaneFault}
use Rattle.cn_floor.specs.declared.fault.LaneFault.TheVariants as fault
use Rattle.cn_handles.specs.declared.handles.refusal.Refusal.{Refusal}
use Rattle.cn_handles.specs.declared.handles.refusal.Refusal.TheVariants.{Nothing, Memory, Kind, Width, Quota, NoSuchEntry, QuotaSpent, QuotaTooSmall, StillWalking, NobodyThere, LanesMissing, NothingBack, Size, Carried, LanesThere}

-- the status that a call answers with a refusal, as renamer.h has them
abbrev pub status_of_refusal : Refusal → ℕ
status_of_refusal Nothing = 1
status_of_refusal Memory = 2
status_of_refusal Kind = 3
status_of_refusal Width = 4
status_of_refusal Quota = 5
status_of_refusal NoSuchEntry = 6
status_of_refusal QuotaSpent = 7
status_of_refusal QuotaTooSmall = 8
status_of_refusal StillWalking = 9
status_of_refusal NobodyThere = 10
status_of_refusal LanesMissing = 11
status_of_refusal NothingBack = 12
status_of_refusal Size = 13
status_of_refusal Carried = 14
status_of_refusal LanesThere = 15

-- the refusal of a call whose lane or taker lets a client not in
abbrev pub refusal_of_fault : LaneFault → Refusal
refusal_of_fault fault.NoSuchEntry = NoSuchEntry
refusal_of_fault fault.QuotaSpent = QuotaSpent
refusal_of_fault fault.Memory = Memory
