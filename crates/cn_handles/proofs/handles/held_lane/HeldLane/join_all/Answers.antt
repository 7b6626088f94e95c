use Rattle.cn_handles.proofs.Common.{◌≡◌, ◌+◌, ◌∙◌, Some, suc, refl, arith}
use Rattle.cn_handles.proofs.handles.held_lane.HeldLane.join_all.Goals as goal

pub loop-joined-preserved : goal.loop-joined-preserved
loop-joined-preserved c =
    let (n, before, many, joined, lanes, few) = c.loop-joined.invariant in
    let on = c.in-Ok.ensures.ok.0 in
    let more : suc n ≡ c.in-Ok.found.2.found = omega (arith, many, on.found) in
    let next : c.in-Ok.found.2.found ≡ c.loop-joined.joined + 1 = omega (arith, joined, on.found) in (
      suc n,
      (
        Some c.loop-joined.lane,
        before,
        (c.loop-joined.lane, c.in-Ok-join.after, c.in-Ok.found.0.lane.value, refl, refl, c.in-Ok-join.ensures.ok),
      ),
      more,
      next,
      on.state ∙ lanes,
      c.in-Ok.ensures.ok.1,
    )
