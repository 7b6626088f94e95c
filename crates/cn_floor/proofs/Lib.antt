mod Common
mod Lists
mod InStates
mod InLane
mod AtClose
pub mod CallerLemmas
