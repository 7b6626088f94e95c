-- What proofs of other crates cite of this one. They cite nothing else of proofs/.
pub use Rattle.cn_nets.proofs.OneNetwork.{one-network}
