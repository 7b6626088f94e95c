-- What the calls make of lanes.
use Rattle.std.specs.Prelude.{◌≡◌, ℕ, ◌*◌, ◌≤◌, Bool, true, false, Option, Some}
use Rattle.cn_spec.specs.declared.limits.TheConstants.{MOST_ROOM}
use Rattle.cn_tables.specs.declared.kind.Kind.{Kind}
use Rattle.cn_tables.specs.declared.kind.Kind.TheVariants.{Bitonic, Periodic, Tree}
use Rattle.cn_nets.specs.Net.{IsNetworkOf}
use Rattle.cn_floor.specs.Carried.{start_after}
use Rattle.cn_floor.specs.Ends.{IsClosedFloor, ListsHolders, counts_by_exit}
use Rattle.cn_floor.specs.Lane.{LaneValue, empty_lane, with_room}
use Rattle.cn_floor.specs.Named.{IsNamed}
use Rattle.cn_floor.specs.Steps.{IsAnswer, StoodInState}
use Rattle.cn_floor.specs.Views.{after_entered, after_look, after_split, base, split_off}
use Rattle.cn_floor.specs.Words.{word_count}
use Rattle.cn_handles.specs.Records.{RecordValue}

-- a lane that has done nothing, with the whole quota of a floor on which nobody came before
pub record IsOpened (lane : LaneValue) (most : ℕ) : Type 0 where
  pub quota : lane.home.start.quota ≡ most
  pub zero : base lane.home.start ≡ 0
  pub empty : lane ≡ empty_lane lane.home most

-- the words of a lane's floor lie apart in memory, each in 16 words of its own, or side by side
abbrev pub LieApart : Bool → LaneValue → Type 0
LieApart false lane = lane.home.table.words ≡ word_count lane.home.start.network.table
LieApart true lane = lane.home.table.words ≡ 16 * word_count lane.home.start.network.table

-- some of a lane's quota is another lane's, of the same floor
pub record IsSplit (old lane other : LaneValue) (quota : ℕ) : Type 0 where
  pub first : lane ≡ record old { view = after_look (after_split quota old.view) }
  pub second : other ≡ record (empty_lane old.home quota) { view = after_look (split_off quota old.view) }
  pub in_states : StoodInState old.home.start lane.view × StoodInState old.home.start other.view
  pub within : quota ≤ old.view.quota

-- a lane was answered how many came in
pub record IsAnswered (old new : LaneValue) (answer : ℕ) : Type 0 where
  pub fresh : IsAnswer old.home.start old.view answer
  pub lane : new ≡ record old { view = after_entered old.home.start answer old.view }
  pub in_state : StoodInState old.home.start new.view

-- the same of what handles have, in which lanes are
abbrev pub Names : Option LaneValue → Option LaneValue → ℕ → ℕ → ℕ → Type 0
Names old new client entry name =
    (l k : LaneValue) × (old ≡ Some l) × (new ≡ Some k) × IsNamed l k client entry name

-- a lane split one off with this quota
abbrev pub Splits : Option LaneValue → Option LaneValue → Option LaneValue → ℕ → Type 0
Splits old new other quota =
    (l k m : LaneValue) × (old ≡ Some l) × (new ≡ Some k) × (other ≡ Some m) × IsSplit l k m quota

-- a lane answered how many came in
abbrev pub Answers : Option LaneValue → Option LaneValue → ℕ → Type 0
Answers old new answer = (l k : LaneValue) × (old ≡ Some l) × (new ≡ Some k) × IsAnswered l k answer

-- the numbers of the kinds of network
abbrev pub number_of : Kind → ℕ
number_of Bitonic = 0
number_of Periodic = 1
number_of Tree = 2

-- a first lane of a floor over the network of this kind and width
abbrev pub Opens : Option LaneValue → ℕ → ℕ → ℕ → Type 0
Opens new kind width quota =
    (l : LaneValue) × (k : Kind) × (new ≡ Some l) × (number_of k ≡ kind) × IsOpened l quota
    × IsNetworkOf (record { kind = k; width = width }) l.home.start.network

-- a floor was closed by its lane: nobody is inside, the names are those below the number of clients, each once, and
-- this is what it leaves
pub record IsClosedBy (l : LaneValue) (r : RecordValue) : Type 0 where
  pub closed : IsClosedFloor l.home.start l.view r.words.words
  pub network : r.words.network ≡ l.home.start.network
  pub counts : r.counts ≡ counts_by_exit l.home.start r.words.words
  pub holders : ListsHolders l.view.grants r.holders

-- a lane closed its floor, which left this record
abbrev pub Closes : Option LaneValue → Option RecordValue → Type 0
Closes old closed = (l : LaneValue) × (r : RecordValue) × (old ≡ Some l) × (closed ≡ Some r) × IsClosedBy l r

-- a first lane of a floor that goes on from the words of a closed one
abbrev pub OpensAfter : Option RecordValue → Option LaneValue → ℕ → Type 0
OpensAfter closed new quota =
    (r : RecordValue) × (l : LaneValue) × (closed ≡ Some r) × (new ≡ Some l)
    × (l.home.start ≡ start_after r.words quota) × (l ≡ empty_lane l.home quota)

-- a lane has room for so many clients at least
abbrev pub Reserves : Option LaneValue → Option LaneValue → ℕ → Type 0
Reserves old new clients =
    (l : LaneValue) × (old ≡ Some l) × (new ≡ Some (with_room clients l)) × (clients ≤ MOST_ROOM)
