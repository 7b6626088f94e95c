use Rattle.cn_walk.proofs.Common.{ℕ, ◌-◌, length, subst, IsOne, whole, FloorValue}
use Rattle.cn_walk.proofs.Parts.{both-walked, whole-ready}
use Rattle.cn_walk.proofs.forking.+fn-walk_lanes-join_once+arg2+fn-walk_lanes-join_once+arg3+walk_lanes.Goals as goal

pub returns-in-Fork-clause-walked : goal.returns-in-Fork-clause-walked
returns-in-Fork-clause-walked g t c =
    let left = c.into_inner-left.ensures in
    let right = c.into_inner-right.ensures in
    let home : FloorValue = g.F.SharedFloor.home c.args.floor.now in
    let n : ℕ = length c.args.clients.now in
    let ready = rw c.in-Fork.is at c.requires.ready in
    let other = whole-ready home (n - c.in-Fork.at) c.args.crew.hand c.in-Fork.right.value ready.3 in
    let done = both-walked (whole c.into_inner-left.result) (whole c.into_inner-right.result) _ _ _ _
    (rw (← right) at other.nothing) c.join_once-lane.ensures.first c.join_once-lane.ensures.second in
    rw (c.in-Fork.is, c.take_in.ensures, c.split_at.ensures.by_index.0, ← left, ← right) done

pub returns-in-Fork-clause-in_order : goal.returns-in-Fork-clause-in_order
returns-in-Fork-clause-in_order g t c one single sole = absurd (subst IsOne c.in-Fork.is single)
