use Rattle.cn_handles.proofs.Common.{inr, refl}
use Rattle.cn_handles.proofs.handles.held.Held.with_lane.Goals as goal

pub returns-in-Lane : goal.returns-in-Lane
returns-in-Lane g c =
    inr (
      c.in-Lane.lane,
      c.call.new.arg2,
      c.in-Lane.is,
      refl,
      record { shown = _; shows = refl; left = _; met = c.call.ensures; leaves = refl },
    )
