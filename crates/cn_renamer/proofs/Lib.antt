mod Common
pub mod Asked
pub mod Floors
pub mod Kept
pub mod Refused
pub mod Running
pub mod Served
