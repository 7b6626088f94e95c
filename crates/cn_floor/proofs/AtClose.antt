-- What a closed floor has.
pub mod Ends
pub mod Closings
pub mod Spread
pub mod Rises
pub mod Holding
