-- What the close of a floor returns, and why a floor is not closed.
use Rattle.std.specs.Prelude.{◌≡◌, ℕ, ◌+◌, ◌<◌, ◌≤◌, List, length}
use Rattle.cn_yard.specs.Lists.{tokens_in}
use Rattle.cn_floor.specs.declared.floor.closing.CloseFault.{CloseFault}
use Rattle.cn_floor.specs.declared.floor.closing.CloseFault.TheVariants.{StillWalking, Memory, LanesMissing}
use Rattle.cn_floor.specs.declared.view.Start.{Start}
use Rattle.cn_floor.specs.declared.view.View.{View}
use Rattle.cn_floor.specs.Ends.{IsClosedFloor}
use Rattle.cn_floor.specs.Lane.{FloorValue, LaneValue}
use Rattle.cn_floor.specs.Rule.{FloorState}
use Rattle.cn_floor.specs.Steps.{IsStateOf}
use Rattle.cn_floor.specs.Views.{base}
use Rattle.cn_floor.specs.Words.{clients_in, word_count}

-- what the words at the end are, if the last seat has the view v
pub record IsEnding (start : Start) (v : View) (words : List ℕ) : Type 0 where
  -- they are those of a state in which the lane has this view
  pub state : FloorState
  pub in_state : IsStateOf start v state
  pub same : state.words ≡ words
  pub count : length words ≡ word_count start.network.table
  pub few : clients_in start.network.table words ≤ base start + start.quota
  pub granted : base start + length v.grants ≤ clients_in start.network.table words
  -- if the lane has what the floor began with, all that came in are its own
  pub sole : v.quota + length v.entries ≡ start.quota
      → clients_in start.network.table words ≡ base start + length v.entries
  pub within : v.quota + length v.entries ≤ start.quota
  pub closed_floor : tokens_in v.tokens ≡ 0 → clients_in start.network.table words ≡ base start + length v.grants
      → IsClosedFloor start v words

-- more came in than the lane has grants: this number, by the words of a state in which the lane has this view
pub record IsMissing (start : Start) (v : View) (entered : ℕ) : Type 0 where
  pub state : FloorState
  pub in_state : IsStateOf start v state
  pub came : clients_in start.network.table state.words ≡ base start + entered
  pub more : length v.grants < entered
  -- it comes only if other lanes have a part of the quota, spent or not
  pub short : v.quota + length v.entries < start.quota

-- why a floor was not closed: the first two give back floor and lane
abbrev pub IsCloseRefused : FloorValue → LaneValue → CloseFault → Type 0
IsCloseRefused floor lane (StillWalking f l) = (f ≡ floor) × (l ≡ lane) × (0 < tokens_in lane.yard.lists)
IsCloseRefused floor lane (Memory f l) = (f ≡ floor) × (l ≡ lane) × (tokens_in lane.yard.lists ≡ 0)
IsCloseRefused floor lane (LanesMissing entered granted grants) =
    (tokens_in lane.yard.lists ≡ 0) × (grants.items ≡ lane.view.grants) × (granted ≡ length lane.view.grants)
    × IsMissing floor.start lane.view entered
