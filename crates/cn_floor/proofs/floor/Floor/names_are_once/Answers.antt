use Rattle.cn_floor.proofs.Common.{arith}
use Rattle.cn_floor.proofs.InStates.Fresh.{load-bound-few}
use Rattle.cn_floor.proofs.InStates.Names.{names-once}
use Rattle.cn_floor.proofs.floor.Floor.names_are_once.Goals as goal

pub returns-clause-once : goal.returns-clause-once
returns-clause-once c s kept id v at = names-once c.args.self.now.start s kept id v at

pub returns-clause-low : goal.returns-clause-low
returns-clause-low c s kept id v at k d low =
    let start = c.args.self.now.start in
    let f = kept.fresh id v at in
    omega (arith, f.names k d low, load-bound-few start.network.table s.words v.loads f.low)
