-- Lanes that are handed back to their floor, and taken into others.
use Rattle.std.specs.Prelude.{◌≡◌, ◌-◌, ◌+◌, ◌<◌, ◌≤◌, ℕ, zero, suc, Option, Some, length}
use Rattle.cn_yard.specs.Lists.{tokens_in}
use Rattle.cn_floor.specs.Lane.{FloorValue, LaneValue}
use Rattle.cn_floor.specs.Steps.{StoodInState}
use Rattle.cn_floor.specs.Views.{after_join, after_look}

-- a lane of this floor with nobody inside; each client for whom it has room has a free record of its yard
pub record IsBack (floor : FloorValue) (lane : LaneValue) : Type 0 where
  pub home : lane.home ≡ floor
  pub out : tokens_in lane.yard.lists ≡ 0
  pub spare : lane.room ≤ lane.yard.spare

-- a lane takes in another of its floor, with nobody inside: its grants, its quota and all that it did
pub record IsJoined (old new other : LaneValue) : Type 0 where
  pub back : IsBack old.home other
  pub lane : new ≡ record old {
    view = after_look (after_join old.view other.view);
    room = old.room - length other.view.grants;
  }
  pub in_state : StoodInState old.home.start new.view

-- the same of what a handle has: it took in some lane of its floor with nobody inside
abbrev pub Joins : Option LaneValue → Option LaneValue → Type 0
Joins old new = (l k m : LaneValue) × (old ≡ Some l) × (new ≡ Some k) × IsJoined l k m

-- a lane was there, with nobody inside
abbrev pub HandsBack : Option LaneValue → Type 0
HandsBack old = (l : LaneValue) × (old ≡ Some l) × IsBack l.home l

-- a lane has quota or grants
abbrev pub HasAny : LaneValue → Type 0
HasAny l = 0 < l.view.quota + length l.view.grants

-- a lane of the floor of this one comes whole that was handed back: its grants, its quota, some of either, and nobody
-- inside
abbrev pub TakesBack : Option LaneValue → Option LaneValue → Type 0
TakesBack of back = (l m : LaneValue) × (of ≡ Some l) × (back ≡ Some m) × IsBack l.home m × HasAny m

-- lanes are taken in, as many, one after another
abbrev pub JoinsTimes : ℕ → Option LaneValue → Option LaneValue → Type 0
JoinsTimes zero old new = new ≡ old
JoinsTimes (suc n) old new = (mid : Option LaneValue) × JoinsTimes n old mid × Joins mid new

-- what a handle has took in any number of lanes, one after another
abbrev pub JoinsAll : Option LaneValue → Option LaneValue → Type 0
JoinsAll old new = (n : ℕ) × JoinsTimes n old new
