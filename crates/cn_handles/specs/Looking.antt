-- Searches for a lane that was handed back.
use Rattle.std.specs.Prelude.{◌≡◌, ◌≢◌, ◌⊎◌, ℕ, ◌+◌, ◌/◌, ◌%◌, ◌<◌, ◌≤◌, true}
use Rattle.cn_floor.specs.Lane.{FloorValue}
use Rattle.cn_handles.specs.Placing.{IsPlaceOf}
use Rattle.cn_handles.specs.Returns.{IsBack}
use Rattle.cn_handles.specs.declared.places.place.Place.{Place}
use Rattle.cn_handles.specs.declared.places.place.Spot.{Spot}
use Rattle.cn_handles.specs.declared.places.reading_rows.Unread.{Unread}
use Rattle.cn_handles.specs.declared.places.searches.EmptyGroup.{EmptyGroup}
use Rattle.cn_handles.specs.declared.places.searches.EmptyRow.{EmptyRow}
use Rattle.cn_handles.specs.declared.places.searches.NoneBack.{NoneBack}
use Rattle.cn_handles.specs.declared.places.searches.NoneBack.TheVariants.{Searched, Late}
use Rattle.cn_handles.specs.declared.places.searches.Search.{Search}
use Rattle.cn_handles.specs.declared.places.lane_from_place.LaneFromPlace.{LaneFromPlace}

-- a lane of this floor with nobody inside, and a place there
abbrev pub IsFromPlaceOf : FloorValue → LaneFromPlace × Place → Type 0
IsFromPlaceOf floor t = IsBack floor t.0.lane.value × IsPlaceOf floor t.1

-- the row with this number was not made; or has as many readers as it can have, or owners; or was turned by other
-- threads for centuries
abbrev pub IsNoRow : ℕ → Unread → Type 0
IsNoRow at s = (s.at ≡ at) × ((s.word % 4 ≢ 1) ⊎ ((1073741823 ≤ s.word / 4) ⊎ ((s.full ≡ true)
    ⊎ (s.looks ≡ 18446744073709551615))))

-- none of the places of the rows from this one on was counted in this state
pub record IsEmptyRow (row state : ℕ) (e : EmptyRow) : Type 0 where
  pub is_it : (e.row ≡ row) × (e.state ≡ state)
  pub rows : (0 < e.rows) × (row + e.rows ≤ 26)
  pub none : e.number ≡ 0

-- none of so many places from here on was counted in this state
pub record IsEmptyGroup (first : Spot) (state : ℕ) (e : EmptyGroup) : Type 0 where
  pub begins : (e.first ≡ first) × (e.state ≡ state)
  pub size : (0 < e.size) × (e.size ≤ 8589934592)
  pub none : e.number ≡ 0

-- the same places and so many more at most, of which none was counted
pub record Grows (more : ℕ) (a b : EmptyGroup) : Type 0 where
  pub same : (b.first ≡ a.first) × (b.state ≡ a.state)
  pub size : (a.size ≤ b.size) × (b.size ≤ a.size + more)
  pub none : b.number ≡ 0

-- a search for this state that begins, after so many
pub record IsNewSearch (state earlier : ℕ) (s : Search) : Type 0 where
  pub what : s.state ≡ state
  pub on : s.on ≡ record { row = 0; place = 0 }
  pub found : s.found ≡ 0
  pub after : s.earlier ≡ earlier

-- the same search, further on, which found so many more
pub record GoesOn (more : ℕ) (a b : Search) : Type 0 where
  pub state : b.state ≡ a.state
  pub found : b.found ≡ a.found + more
  pub returns : b.returns ≡ a.returns
  pub earlier : b.earlier ≡ a.earlier

-- a search is in a row, or has passed all
abbrev pub IsWithin : Search → Type 0
IsWithin s = s.on.row ≤ 26

-- a search for lanes went through all rows
pub record IsWhole (s : Search) : Type 0 where
  pub lanes : s.state ≡ 1
  pub rows : s.on.row ≡ 26

-- why no lane is taken: a whole search found none, and no lane was handed back meanwhile; or so it was for centuries
abbrev pub IsNoneBack : NoneBack → Type 0
IsNoneBack (Searched s now) = IsWhole s × (s.found ≡ 0) × (now ≡ s.returns)
IsNoneBack (Late s) = s.earlier ≡ 18446744073709551615
