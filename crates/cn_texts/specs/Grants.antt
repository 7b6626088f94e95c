-- Grant lists: what their records say, which of them are tight, and what is written of them.
pub mod Checked
pub mod Granted
pub mod ListText
pub mod Occurrences
pub mod Printed
pub mod TightList
pub mod TightText
