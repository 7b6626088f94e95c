use Rattle.cn_handles.proofs.Common.{inr, refl}
use Rattle.cn_handles.proofs.handles.held.Held.with_taker.Goals as goal

pub returns-in-Taker : goal.returns-in-Taker
returns-in-Taker g c =
    inr (
      c.in-Taker.taker,
      c.call.new.arg2,
      c.in-Taker.is,
      refl,
      record { shown = _; shows = refl; left = _; met = c.call.ensures; leaves = refl },
    )
