pub mod Sizes
pub mod Order
pub mod Parts
