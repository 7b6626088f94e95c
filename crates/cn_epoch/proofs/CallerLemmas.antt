-- What proofs of other crates cite of this one. They cite nothing else of proofs/.

-- commands have one list of answers, and leave one history
pub use Rattle.cn_epoch.proofs.OneRecord.{history-by-same, one-list, turns-by-same}
-- what answers commands one by one answers them all
pub use Rattle.cn_epoch.proofs.Answering.{runs-at, runs-none}
