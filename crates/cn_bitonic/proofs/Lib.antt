mod Common
pub mod MergerParts
pub mod Halves
pub mod Whole
