-- The rule of a floor: what the words and the views of all lanes are to each other between any two atomic steps.
use Rattle.std.specs.Prelude.{◌≡◌, ℕ, ◌+◌, ◌*◌, ◌<◌, ◌≤◌, ◌&&◌, ◌==◌, nat_lt, All, List, [], length, slice_index, slice_index_or, count_by, sum_by}
use mathlib.Core.Option.{some}
use lib.ListN.{get_elem?}
use Rattle.atomic_table.specs.Table.{State}
use Rattle.cn_spec.specs.Step.{name_of}
use Rattle.cn_spec.specs.Sums.{when, times, once_below, sum_below}
use Rattle.cn_spec.specs.declared.limits.TheConstants.{MOST_CARRIED, MOST_NAMED}
use Rattle.cn_spec.specs.declared.limits.TheConstants.{MOST_TAKEN}
use Rattle.cn_tables.specs.declared.end.End.TheVariants.{Exit}
use Rattle.cn_tables.specs.Levels.{IsLevel}
use Rattle.cn_tables.specs.Network.{Network, IsNetwork}
use Rattle.cn_tables.specs.Table.{Table}
use Rattle.cn_ledger.specs.Ledger.{Ledger, IsSound}
use Rattle.cn_yard.specs.Lists.{on, tokens_in}
use Rattle.cn_floor.specs.declared.view.Opening.{Opening}
use Rattle.cn_floor.specs.declared.view.Start.{Start}
use Rattle.cn_floor.specs.declared.view.View.{View}
use Rattle.cn_floor.specs.History.{Event, LeadsTo}
use Rattle.cn_floor.specs.Views.{base, given_in, granted_in, levels_in}
use Rattle.cn_floor.specs.Words.{clients_in, count_in, entered_in, word_count}

-- The ledger of all that came, went and was given since the words were zero: what the carried words record, and what
-- the views record. Who the carried clients were is not kept: 0 stands for each.
abbrev pub ledger_of : Table → List ℕ → List ℕ → List View → Ledger
ledger_of t carried words views = record {
  entered = entered_in t words;
  count = count_in t words;
  on = λ u. sum_by (λ v. length (on v.tokens u)) views;
  standing = λ u c. sum_by (λ v. count_by (λ e. e.1 == c) (on v.tokens u)) views;
  given = λ end n. once_below (count_in t carried end) n + sum_by (given_in end n) views;
  granted = λ c i v name.
      when ((0 == c) && (nat_lt v (count_in t carried (Exit i)) && (name_of t.width i v == name))) 1
      + sum_by (granted_in (clients_in t carried) c i v name) views;
}

-- words that a floor may carry: those of a sound ledger with nobody inside
pub record IsCarried (t : Table) (carried : List ℕ) : Type 0 where
  pub words : length carried ≡ word_count t
  pub lanes : slice_index carried 0 ≡ 0
  pub sound : IsSound t (ledger_of t carried carried [])

-- what a floor may begin with
pub record IsStart (start : Start) : Type 0 where
  pub network : IsNetwork start.network
  pub quota : start.quota ≤ MOST_TAKEN
  pub carried : IsCarried start.network.table start.words
  pub few : base start ≤ MOST_TAKEN

-- what a floor begins with whose lanes keep lists
pub record FitsLanes (start : Start) : Type 0 where
  pub quota : start.quota ≤ MOST_NAMED
  pub few : base start ≤ MOST_CARRIED

-- this ledger is that of some history since the floor began
abbrev pub IsReached : Start → Ledger → Type 0
IsReached start l =
    (history : List Event)
    × LeadsTo start.network.table history (ledger_of start.network.table start.words start.words []) l

-- what each view is by itself
pub record IsAccounted (network : Network) (v : View) : Type 0 where
  -- who came in is inside or has a grant
  pub all : length v.entries ≡ tokens_in v.tokens + length v.grants
  pub entries : All (λ u. u < network.table.entries) v.entries
  -- each has passed as many balancers as its wire is deep, or as the network is
  pub walked : (level : ℕ → ℕ) → IsLevel network.table network.depth level
      → length v.passages ≡ network.depth * length v.grants + levels_in level v

-- a bound on what a lane's loads add up to: the words that it has loaded so far, and those of the other entries as they
-- are
abbrev pub load_bound : Table → List ℕ → List ℕ → ℕ
load_bound t words loads = sum_below t.entries (λ u. slice_index_or loads u (entered_in t words u))

-- a lane's next answer of how many came in is no less than what it let in and than its earlier answers, and more than
-- each of its names
pub record IsFresh (start : Start) (words : List ℕ) (v : View) : Type 0 where
  pub low : (u : ℕ) → slice_index v.loads u ≤ entered_in start.network.table words u
  pub own : base start + length v.entries ≤ load_bound start.network.table words v.loads
  pub seen : base start + v.seen ≤ load_bound start.network.table words v.loads
  pub names : All (λ g. base start + g.name < load_bound start.network.table words v.loads) v.grants

-- the words and the views of a floor
abbrev pub FloorState : Type 0
FloorState = State (Unit {0}) View

-- what holds between any two atomic steps
pub record KeepsRule (start : Start) (s : FloorState) : Type 0 where
  pub words : length s.words ≡ word_count start.network.table
  -- nobody ever adds to the lanes' word
  pub lanes : slice_index s.words 0 ≡ 0
  -- the ledger is sound
  pub sound : IsSound start.network.table (ledger_of start.network.table start.words s.words s.views)
  -- and some history of the floor led to it
  pub reached : IsReached start (ledger_of start.network.table start.words s.words s.views)
  -- each entry's word has the entries of all views, above the carried ones
  pub entered : (u : ℕ) → u < start.network.table.entries
      → entered_in start.network.table s.words u
      ≡ entered_in start.network.table start.words u + sum_by (λ v. times u v.entries) s.views
  pub accounted : (id : ℕ) (v : View) → get_elem? s.views id ≡ some v → IsAccounted start.network v
  pub fresh : (id : ℕ) (v : View) → get_elem? s.views id ≡ some v → IsFresh start s.words v
  -- the quota is spent only on entries
  pub quotas : sum_by (λ v. v.quota + length v.entries) s.views ≡ start.quota

-- the rule of a table: that of a floor which began as a floor may
pub record HoldsAt (start : Start) (s : FloorState) : Type 0 where
  pub began : IsStart start
  pub rule : KeepsRule start s

-- what a floor begins with, by what its words are opened with
abbrev pub start_of : Opening → Start
start_of key = record {
  network = key.network.value;
  quota = key.quota;
  words = key.words.value.items;
  stride = key.stride;
}
