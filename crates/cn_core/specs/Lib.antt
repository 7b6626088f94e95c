pub mod State
pub mod History
pub mod StateLedger
pub mod Tight
pub mod Calls
pub mod InsideClients
pub mod InsideCore
