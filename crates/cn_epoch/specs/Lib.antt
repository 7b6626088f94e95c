pub mod History
pub mod Turns
pub mod Calls
pub mod InsideEpochs
