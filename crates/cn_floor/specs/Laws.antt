-- What the laws of floors say.
use Rattle.std.specs.Prelude.{◌≡◌, ℕ, ◌+◌, ◌*◌, ◌<◌, ◌≤◌, All, length, map, sum_by}
use mathlib.Core.Option.{some}
use lib.ListN.{get_elem?}
use Rattle.cn_spec.specs.Step.{share}
use Rattle.cn_spec.specs.Sums.{once_below, times}
use Rattle.cn_tables.specs.declared.end.End.{End}
use Rattle.cn_tables.specs.declared.end.End.TheVariants.{Exit}
use Rattle.cn_tables.specs.Levels.{IsLevel}
use Rattle.cn_tables.specs.Table.{Stands}
use Rattle.cn_ledger.specs.Ledger.{Ledger}
use Rattle.cn_yard.specs.Lists.{tokens_in}
use Rattle.cn_floor.specs.declared.view.Start.{Start}
use Rattle.cn_floor.specs.declared.view.View.{View}
use Rattle.cn_floor.specs.Rule.{FloorState, KeepsRule, ledger_of}
use Rattle.cn_floor.specs.Views.{base, given_in, levels_in}
use Rattle.cn_floor.specs.Words.{clients_in, count_in}

-- each state that keeps the rule of a floor has this property
abbrev pub InEachState : Start → (Start → FloorState → Type 0) → Type 0
InEachState start P = (s : FloorState) → KeepsRule start s → P start s

-- each view in each state that keeps the rule of a floor has this property
abbrev pub InEachView : Start → (Start → FloorState → View → Type 0) → Type 0
InEachView start P = InEachState start (λ start s. (id : ℕ) (v : View) → get_elem? s.views id ≡ some v → P start s v)

-- the ledger of all that ever came
abbrev pub ledger_at : Start → FloorState → Ledger
ledger_at start s = ledger_of start.network.table start.words s.words s.views

-- how many ever came, by the words
abbrev pub entered_at : Start → FloorState → ℕ
entered_at start s = clients_in start.network.table s.words

-- no two passages or visits of any lanes have one number
abbrev pub NumbersDiffer : Start → FloorState → Type 0
NumbersDiffer start s =
    (end : End) (n : ℕ) → Stands start.network.table end → sum_by (given_in end n) s.views ≤ 1

-- no count is more than the number that ever came
abbrev pub HasFewWords : Start → FloorState → Type 0
HasFewWords start s =
    (end : End) → Stands start.network.table end → count_in start.network.table s.words end ≤ entered_at start s

-- the names that a lane holds are below the number that came since the floor began
abbrev pub HoldsLowNames : Start → FloorState → View → Type 0
HoldsLowNames start s v = All (λ g. base start + g.name < entered_at start s) v.grants

-- no name stands twice in a lane
abbrev pub NamesOnce : Start → FloorState → View → Type 0
NamesOnce start s v = (name : ℕ) → times name (map (λ g. g.name) v.grants) ≤ 1

-- the visits that lanes were given on an exit begin with its share of the clients that came before the floor began, and
-- are those below its count, each once
abbrev pub VisitsGoOn : Start → FloorState → Type 0
VisitsGoOn start s =
    (i n : ℕ) → i < start.network.table.width
    → once_below (share (base start) start.network.table.width i) n + sum_by (given_in (Exit i) n) s.views
    ≡ once_below (count_in start.network.table s.words (Exit i)) n

-- the passages are the depth for each grant, and the levels of those inside
abbrev pub HasWalked : Start → View → Type 0
HasWalked start v =
    (level : ℕ → ℕ) → IsLevel start.network.table start.network.depth level
    → length v.passages ≡ start.network.depth * length v.grants + levels_in level v

-- if nobody is inside, each client came in, passed as many balancers as the network is deep, and left
abbrev pub TakesItsSteps : Start → View → Type 0
TakesItsSteps start v =
    tokens_in v.tokens ≡ 0
    → length v.entries + length v.passages + length v.grants ≡ (start.network.depth + 2) * length v.grants
