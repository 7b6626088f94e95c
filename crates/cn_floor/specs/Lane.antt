-- A lane and a floor as contracts see them, and what calls make of a lane.
use Rattle.std.specs.Prelude.{◌≡◌, ℕ, ◌+◌, ◌-◌, ◌%◌, ◌≤◌, [], Some, length, max, min, replicate}
use Rattle.atomic_table.specs.Seated.{TableId}
use Rattle.cn_tables.specs.declared.end.End.{End}
use Rattle.cn_tables.specs.declared.end.End.TheVariants.{Balancer, Exit}
use Rattle.cn_tables.specs.Network.{Network}
use Rattle.cn_tables.specs.Table.{end_of, output_wire}
use Rattle.cn_yard.specs.Lists.{Admits, Lists, Moves, Releases, Yard, empty, standing}
use Rattle.cn_ledger.specs.declared.moved.Moved.{Moved}
use Rattle.cn_ledger.specs.Moves.{IsMoveOf}
use Rattle.cn_ledger.specs.Events.{Enters}
use Rattle.cn_floor.specs.declared.view.Start.{Start}
use Rattle.cn_floor.specs.declared.view.View.{View}
use Rattle.cn_floor.specs.Steps.{IsAtomicStep, answer_at}
use Rattle.cn_floor.specs.Views.{after_enter, after_step, base, empty_view, own_count}
use Rattle.cn_floor.specs.Words.{count_in}

-- a floor: which table its words are, and what it began with
pub record FloorValue : Type 0 where
  pub table : TableId
  pub start : Start

-- a post: its floor, and what it has done
pub record PostValue : Type 0 where
  pub home : FloorValue
  pub view : View

-- a post of this floor that has done nothing
abbrev pub empty_post : FloorValue → ℕ → PostValue
empty_post home quota = record { home = home; view = empty_view home.start quota }

-- a lane: its floor, what it has done, its tokens on their wires with the free records for more, and for how many
-- grants more it has room, beside one for each token
pub record LaneValue : Type 0 where
  pub home : FloorValue
  pub view : View
  pub yard : Yard
  pub room : ℕ

-- a yard for a lane over a network, with nobody on its wires
abbrev pub IsIdle : Network → Lists → Type 0
IsIdle network lists = lists ≡ replicate (length network.table.ends) []

-- a lane of this floor that has done nothing
abbrev pub empty_lane : FloorValue → ℕ → LaneValue
empty_lane home quota = record {
  home = home;
  view = empty_view home.start quota;
  yard = empty (length home.start.network.table.ends);
  room = 0;
}

-- the lane with room for n grants at least, and at least so many free records of its yard
abbrev pub with_rooms : ℕ → ℕ → LaneValue → LaneValue
with_rooms n records lane = record lane {
  yard = record { lists = lane.yard.lists; spare = max records lane.yard.spare };
  room = max n lane.room;
}

-- the lane with room for n clients at least: for their grants, and as many free records of its yard
abbrev pub with_room : ℕ → LaneValue → LaneValue
with_room n lane = with_rooms n n lane

-- for how many clients it has room: for their grants, and a free record for each
abbrev pub room_of : LaneValue → ℕ
room_of lane = min lane.room lane.yard.spare

-- a client is let in by an entry: its token stands last on the entry's wire, and all others where they stood
pub record LetsIn (old new : LaneValue) (token client entry : ℕ) : Type 0 where
  pub home : new.home ≡ old.home
  pub view : new.view ≡ after_enter token client entry old.view
  pub yard : Admits old.yard new.yard token client entry
  pub room : new.room ≡ old.room - 1
  -- and that was one event
  pub step : IsAtomicStep old.home.start old.view new.view (λ l m. Enters old.home.start.network.table l m client entry)

-- a token that goes by an end with number n stands last on the balancer's output, or is gone
abbrev pub PutsOn : Start → End → ℕ → Yard → Yard → ℕ → ℕ → Type 0
PutsOn start (Balancer b) n old new token client =
    Moves old new token client (output_wire start.network.table b (n % 2))
PutsOn start (Exit i) n old new token client = Releases old new token

-- a client's token goes by the end of its wire, with the number that it finds there
pub record StepsOn (old new : LaneValue) (token client wire n : ℕ) (answer : Moved) : Type 0 where
  pub stood : standing old.yard.lists token ≡ Some (wire, client)
  pub home : new.home ≡ old.home
  pub view : new.view ≡ after_step token client (end_of old.home.start.network.table wire) n old.view
  pub yard : PutsOn old.home.start (end_of old.home.start.network.table wire) n old.yard new.yard token client
  pub room : new.room ≡ old.room
  pub answered : answer ≡ answer_at old.home.start (end_of old.home.start.network.table wire) n
  -- and that was one event
  pub step : IsAtomicStep old.home.start old.view new.view
      (λ l m. IsMoveOf old.home.start.network.table (base old.home.start) l m client answer)
  pub few : n ≤ base old.home.start + old.home.start.quota
  -- a lane with the whole quota is given the count of its own
  pub sole : old.view.quota + length old.view.entries ≡ old.home.start.quota
      → n ≡ count_in old.home.start.network.table old.home.start.words (end_of old.home.start.network.table wire)
      + own_count (end_of old.home.start.network.table wire) old.view
