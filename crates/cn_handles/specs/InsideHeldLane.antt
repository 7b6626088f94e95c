-- What a lane with its share of its floor keeps.
use Rattle.std.specs.Arc.{arc_value}
use Rattle.std.specs.Prelude.{◌≡◌, ◌≤◌, Some}
use Rattle.cn_handles.specs.Placing.{IsPlaceOf}
use Rattle.cn_handles.specs.declared.handles.held_lane.HeldLane.TheInside.{Inside}

-- its floor is there, and is that of the lane, as its place is, and its quota is known; and each client for whom it has
-- room has a free record of the lane's yard
pub record IsHeldLane (h : Inside) : Type 0 where
  pub own : arc_value h.floor ≡ Some h.lane.home
  pub most : h.most ≡ h.lane.home.start.quota
  pub place : IsPlaceOf h.lane.home h.place
  pub spare : h.lane.room ≤ h.lane.yard.spare
