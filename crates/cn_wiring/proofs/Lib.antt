mod Common
pub mod Entries
pub mod Marks
pub mod Grown
pub mod Builds
pub mod Close
pub mod Unique
pub mod Finished
pub mod Rows
pub mod CallerLemmas
