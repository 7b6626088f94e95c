pub mod Traffic
pub mod InsideBalancer
