use Rattle.cn_floor.proofs.Common.{arith}
use Rattle.cn_floor.proofs.InStates.Fresh.{load-bound-few}
use Rattle.cn_floor.proofs.floor.Floor.answers_stay_true.Goals as goal

pub returns : goal.returns
returns c s kept id v at =
    let start = c.args.self.now.start in
    let f = kept.fresh id v at in
    omega (arith, f.seen, load-bound-few start.network.table s.words v.loads f.low)
