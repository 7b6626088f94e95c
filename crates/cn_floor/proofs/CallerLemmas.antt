-- What proofs of other crates cite of this one. They cite nothing else of proofs/.

-- tokens and their wires
pub use Rattle.cn_floor.proofs.InLane.Yards.{first-stands, lowest-inside, nobody-in, nobody-there, some-inside}
pub use Rattle.cn_floor.proofs.InLane.Swept.{IsKin, grants-kept, grants-left, kin-by}
pub use Rattle.cn_floor.proofs.InLane.Named.{names-low, state-after}
pub use Rattle.cn_floor.proofs.InLane.Outs.{grants-many, grants-next}
-- what a lane may do, and what it did
pub use Rattle.cn_floor.proofs.InStates.Sweeps.{MayGo, goes-there, rest-may}
pub use Rattle.cn_floor.proofs.InStates.Ledgers.{Lands, count-word}
pub use Rattle.cn_floor.proofs.InStates.Accounts.{at-none, at-one, weighed-went, no-levels}
pub use Rattle.cn_floor.proofs.Lists.{lists-after-on, made_at, made-beyond, ones, weigh-come, weigh-leave, weigh-pass}
-- a floor that nobody entered
pub use Rattle.cn_floor.proofs.InStates.Openings.{none-came, none-counted, none-entered}
-- a closed floor
pub use Rattle.cn_floor.proofs.AtClose.Rises.{all-empty}
pub use Rattle.cn_floor.proofs.AtClose.Closings.{ending-at, inside-yard, map-same, none-on}
pub use Rattle.cn_floor.proofs.AtClose.Holding.{Stand, all-stand, name-low, one-more}
