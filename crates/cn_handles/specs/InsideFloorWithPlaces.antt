-- What a floor keeps with its places for lanes.
use Rattle.std.specs.Prelude.{◌≡◌, length}
use Rattle.cn_handles.specs.Placing.{AreSlotsOf}
use Rattle.cn_handles.specs.declared.places.FloorWithPlaces.TheInside.{Inside}

-- each row of places is for lanes of this floor, and there is space for so many
pub record IsFloorWithPlaces (g : Inside) : Type 0 where
  pub rows : AreSlotsOf g.floor g.slots.items
  pub many : length g.slots.items ≡ 26
