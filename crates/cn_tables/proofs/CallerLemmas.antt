-- What proofs of other crates cite of this one. They cite nothing else of proofs/.
pub use Rattle.cn_tables.proofs.Conserve.{count-twice, full-flow-sum, full-flow-few}
pub use Rattle.cn_tables.proofs.Flow.{full-flow-draft, full-flow-exists, full-flow-paths, full-flow-unique, older}
pub use Rattle.cn_tables.proofs.Levels.{levels, path-levels}
pub use Rattle.cn_tables.proofs.PlanFlow.{flow-exists, flow-unique, paths}
pub use Rattle.cn_tables.proofs.Tables.{flow-plan, from-balancer, into-passages}
