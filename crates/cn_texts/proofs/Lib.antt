pub mod CallerLemmas
pub mod Common
pub mod Each
pub mod GrantLemmas
pub mod ReadingLemmas
pub mod WritingLemmas
