-- What proofs of other crates cite of this one. They cite nothing else of proofs/.

-- sound ledgers against full flows, and where what entered is
pub use Rattle.cn_ledger.proofs.Bound.{bounded, counts-few, granted-once, names-differ, tight}
-- events
pub use Rattle.cn_ledger.proofs.EventLemmas.{eqb-sym, is_end-sym, sound-enters, sound-leaves, sound-passes}
pub use Rattle.cn_ledger.proofs.Happening.{entering, leaving, leaving-there, passing-there}
-- where nobody has come
pub use Rattle.cn_ledger.proofs.EmptyLedger.{IsNothing, sound-nothing}
-- what is missing, and what is granted between
pub use Rattle.cn_ledger.proofs.Gaps.{missing, near-shares, smooth}
pub use Rattle.cn_ledger.proofs.Listed.{between, names-each}
