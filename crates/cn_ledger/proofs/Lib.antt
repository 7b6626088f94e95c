mod Common
pub mod Bound
pub mod EventLemmas
pub mod EmptyLedger
pub mod Happening
pub mod Listed
pub mod CallerLemmas
pub mod Gaps
