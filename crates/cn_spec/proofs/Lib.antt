mod Common
pub mod Sums
pub mod Times
pub mod Shares
pub mod Names
pub mod Rows
pub mod Merger
pub mod Blocks
pub mod Flows
pub mod CallerLemmas
