-- Lemmas on what is read.
pub mod Ahead
pub mod BatchRecords
pub mod Digits
pub mod FirstFaults
pub mod GatheredEpochs
pub mod RecordLists
pub mod ScheduleRecords
pub mod ServableEpochs
pub mod Stretches
pub mod Told
