pub mod Listed
pub mod Taking
pub mod InsideTaker
