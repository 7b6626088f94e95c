-- What a taker with its share of its floor keeps.
use Rattle.std.specs.Arc.{arc_value}
use Rattle.std.specs.Prelude.{◌≡◌}
use Rattle.cn_handles.specs.declared.handles.held_taker.HeldTaker.TheInside.{Inside}

-- its floor is that of the taker
pub record IsHeldTaker (h : Inside) : Type 0 where
  pub own : arc_value h.floor ≡ h.taker.home
