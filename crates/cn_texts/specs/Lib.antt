pub mod Grants
pub mod Reading
pub mod Writing
