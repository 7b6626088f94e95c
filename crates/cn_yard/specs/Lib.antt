pub mod Lists
pub mod Deals
pub mod Records
pub mod Chains
pub mod Lines
pub mod Marks
pub mod Moving
pub mod InsideYard
