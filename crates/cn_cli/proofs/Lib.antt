mod Common
pub mod Readings
pub mod WordNumbers
pub mod OneRun
pub mod Drafts
