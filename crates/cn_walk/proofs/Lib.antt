mod Common
pub mod Walks
pub mod Ordered
pub mod SweptWalks
mod Parts
mod Runs
