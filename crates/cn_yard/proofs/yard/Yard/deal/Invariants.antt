use Rattle.cn_yard.proofs.Common.{length, out_of, on}
use Rattle.cn_yard.proofs.Turns.{IsDealing}
use Rattle.cn_yard.proofs.yard.Yard.deal.Given as goal

abbrev pub invariant-loop-token : goal.invariant-loop-token
invariant-loop-token l = IsDealing (out_of l.out0 l.out1) l.output l.wire l.initial.self l.self l.next

abbrev pub decreases-loop-token : goal.decreases-loop-token
decreases-loop-token l = length (on l.self.lists l.wire)
