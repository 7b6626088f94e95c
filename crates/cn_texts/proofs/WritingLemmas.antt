-- Lemmas on what is written.
pub mod Putting
pub mod RecordLines
