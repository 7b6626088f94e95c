-- What is written: the lines of each text.
pub mod EpochRecords
pub mod Outcome
pub mod Pieces
pub mod Replay
pub mod Report
pub mod Text
pub mod Written
pub mod Wiring
