-- Lemmas on grant lists.
pub mod CheckedGrants
pub mod GrantRecords
pub mod Repeats
pub mod TightFacts
