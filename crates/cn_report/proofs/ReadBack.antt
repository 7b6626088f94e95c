-- Lemmas on what is written and read again.
pub mod Batches
pub mod PrintedAgain
pub mod Records
pub mod TightAgain
