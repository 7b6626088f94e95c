pub mod Accepted
pub mod Common
pub mod InOrder
pub mod OneText
pub mod ReadBack
pub mod SameLines
pub mod UniqueBatch
