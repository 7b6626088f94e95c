pub mod Plan
pub mod Kinds
pub mod Table
pub mod Network
pub mod InsideWiring
pub mod Widths
pub mod Faults
pub mod Levels
