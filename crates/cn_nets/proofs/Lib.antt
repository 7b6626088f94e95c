pub mod OneNetwork
pub mod CallerLemmas
