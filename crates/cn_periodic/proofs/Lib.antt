mod Common
pub mod BlockParts
pub mod Series
pub mod Whole
