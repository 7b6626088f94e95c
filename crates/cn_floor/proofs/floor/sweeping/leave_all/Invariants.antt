use Rattle.cn_floor.proofs.Common.{◌≡◌, length, vec_capacity, on}
use Rattle.cn_floor.proofs.InLane.Outs.{IsLeaving}
use Rattle.cn_floor.proofs.floor.sweeping.leave_all.Given as goal

abbrev pub invariant-loop-token : goal.invariant-loop-token
invariant-loop-token l = record {
  so_far : IsLeaving l.width l.base l.exit l.first l.wire l.initial.yard l.yard l.initial.grants.items l.grants.items l.visit;
  capacity : vec_capacity l.grants ≡ vec_capacity l.initial.grants;
}

abbrev pub decreases-loop-token : goal.decreases-loop-token
decreases-loop-token l = length (on l.yard.lists l.wire)
