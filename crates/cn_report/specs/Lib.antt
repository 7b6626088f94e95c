-- For callers in Rattle: what a check with counts answers, and the epochs that can be written as a tight list.
pub mod Callers
pub mod TightRecords
