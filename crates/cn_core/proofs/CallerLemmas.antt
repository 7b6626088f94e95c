-- What proofs of other crates cite of this one. They cite nothing else of proofs/.

-- states and their histories
pub use Rattle.cn_core.proofs.HistoryLemmas.{Agrees-after_carry, Agrees-start, came-after, inside-by_history}
-- names after a history and earlier epochs
pub use Rattle.cn_core.proofs.EarlierLemmas.{one-holder-after}
