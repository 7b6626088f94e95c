-- What proofs of other crates cite of this one. They cite nothing else of proofs/.

-- parts of networks, and networks that are finished
pub use Rattle.cn_wiring.proofs.Builds.{Builds-beside, Builds-giving, Builds-like, Builds-loose, Builds-loose_with, Builds-same}
pub use Rattle.cn_wiring.proofs.Builds.{Builds-sized, Builds-then}
pub use Rattle.cn_wiring.proofs.Finished.{Drawn, drawn, drawn-built, drawn-counts}
pub use Rattle.cn_wiring.proofs.Rows.{all_ok, entries-row, flows-row, outputs-count}
pub use Rattle.cn_wiring.proofs.Unique.{same_table}
