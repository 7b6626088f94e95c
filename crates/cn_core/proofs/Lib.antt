mod Common
pub mod Clientele
pub mod StateLemmas
pub mod HistoryLemmas
pub mod LedgerMoves
pub mod LedgerLemmas
pub mod TightLemmas
pub mod EarlierLemmas
pub mod Holders
pub mod CallerLemmas
