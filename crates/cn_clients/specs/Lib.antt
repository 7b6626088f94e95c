pub mod Naming
pub mod Slots
