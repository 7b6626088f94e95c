pub mod Step
pub mod Networks
pub mod Sums
pub mod Workers
