-- Places for lanes that are handed back, and what was seen of them, or done there.
use Rattle.std.specs.Arc.{arc_value}
use Rattle.std.specs.Prelude.{◌≡◌, ◌≢◌, ℕ, ◌*◌, ◌^◌, ◌<◌, ◌≤◌, All, List, IsSomeAnd, MatchOption, length}
use Rattle.cn_floor.specs.Lane.{FloorValue, LaneValue}
use Rattle.cn_handles.specs.Handles.{back_held}
use Rattle.cn_handles.specs.Returns.{IsBack}
use Rattle.cn_handles.specs.declared.places.place.Place.{Place}
use Rattle.cn_handles.specs.declared.places.place.Spot.{Spot}
use Rattle.cn_handles.specs.declared.places.reading_rows.RowSlot.{RowSlot}
use Rattle.cn_handles.specs.declared.places.row.Row.{Row}
use Rattle.cn_handles.specs.declared.places.row.SharedRow.{SharedRow}
use Rattle.cn_handles.specs.declared.places.turns.Found.{Found}
use Rattle.cn_handles.specs.declared.places.turns.Put.{Put}
use Rattle.cn_handles.specs.declared.places.turns.PlaceFault.{PlaceFault}

-- each place is for lanes of this floor
abbrev pub AreTagsOf : FloorValue → List FloorValue → Type 0
AreTagsOf floor tags = All (λ tag. tag ≡ floor) tags

-- the same of spaces for rows
abbrev pub AreSlotsOf : FloorValue → List RowSlot → Type 0
AreSlotsOf floor slots = All (λ slot. slot.row ≡ floor) slots

-- the same of a row, which has not more places than that
abbrev pub IsRowOf : FloorValue → Row → Type 0
IsRowOf floor row = AreTagsOf floor row.places.items × (length row.places.items ≤ 1099511627776)

-- the same of a row that is shared
abbrev pub IsSharedRowOf : FloorValue → SharedRow → Type 0
IsSharedRowOf floor shared = IsRowOf floor (arc_value shared.row)

-- a place in such a row
abbrev pub IsPlaceOf : FloorValue → Place → Type 0
IsPlaceOf floor p = IsSharedRowOf floor p.shared × (p.spot.place < length (arc_value p.shared.row).places.items)
    × (p.spot.row < 26)

-- how many places the row with this number has
abbrev pub row_size : ℕ → ℕ
row_size at = 16 * 2 ^ at

-- a place was not in this state when it was looked at, or when it was to be turned
abbrev pub IsPlaceFault : ℕ → PlaceFault → Type 0
IsPlaceFault state u = u.word ≢ state

-- the same of the place here: of this row of the floor, with this number there
abbrev pub IsNotIn : Spot → ℕ → PlaceFault → Type 0
IsNotIn spot state u = (u.spot ≡ spot) × IsPlaceFault state u

-- what stood at a place in this state: a lane of this floor, if the state is that of places with one
abbrev pub IsFound : FloorValue → ℕ → Found → Type 0
IsFound floor state f = (f.state ≡ state)
    × MatchOption f.there (state ≢ 1) (λ r. IsSomeAnd (back_held r.boxed.value) (IsBack floor))

-- this lane was put into a place, whose word then says that it has one
abbrev pub IsPut : LaneValue → Put → Type 0
IsPut lane p = (p.lane.value ≡ lane) × (p.word ≡ 1)
