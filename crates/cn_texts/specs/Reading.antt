-- What is read: the records of a text, their numbers, and the schedule or the batch that they spell.
pub mod Arrival
pub mod Heading
pub mod Batch
pub mod Bounds
pub mod Command
pub mod Faults
pub mod Gathered
pub mod Number
pub mod Records
pub mod Scatter
pub mod Schedule
pub mod Stretch
