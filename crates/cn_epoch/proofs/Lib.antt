mod Common
pub mod Answering
pub mod OneRecord
pub mod CallerLemmas
