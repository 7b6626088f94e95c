-- What one atomic step is to the floor's ledger, and what a lane is answered.
use Rattle.std.specs.Prelude.{◌≡◌, ℕ, ◌-◌, ◌%◌, ◌≤◌, ◌<◌, All, length, slice_set}
use mathlib.Core.Option.{some}
use lib.ListN.{get_elem?}
use Rattle.cn_spec.specs.Step.{name_of}
use Rattle.cn_tables.specs.declared.end.End.{End}
use Rattle.cn_tables.specs.declared.end.End.TheVariants.{Balancer, Exit}
use Rattle.cn_tables.specs.Table.{output_wire}
use Rattle.cn_ledger.specs.declared.moved.Moved.{Moved}
use Rattle.cn_ledger.specs.declared.moved.Moved.TheVariants.{On, Out}
use Rattle.cn_ledger.specs.Ledger.{Ledger}
use Rattle.cn_floor.specs.declared.view.Start.{Start}
use Rattle.cn_floor.specs.declared.view.View.{View}
use Rattle.cn_floor.specs.Rule.{FloorState, KeepsRule, ledger_of}
use Rattle.cn_floor.specs.Views.{base}

-- In this state of the floor, which keeps the rule, a lane has this view.
pub record IsStateOf (start : Start) (v : View) (s : FloorState) : Type 0 where
  pub id : ℕ
  pub here : get_elem? s.views id ≡ some v
  pub kept : KeepsRule start s

-- in some state of the floor a lane has this view
abbrev pub StoodInState : Start → View → Type 0
StoodInState start v = (s : FloorState) × IsStateOf start v s

-- In one step of the floor one view becomes another and no other changes, and that is this event on the ledger; the
-- rule holds before it and after.
pub record IsAtomicStep (start : Start) (v w : View) (event : Ledger → Ledger → Type 0) : Type 0 where
  pub old : FloorState
  pub new : FloorState
  pub id : ℕ
  pub here : get_elem? old.views id ≡ some v
  pub there : get_elem? new.views id ≡ some w
  pub views : new.views ≡ slice_set old.views id w
  pub kept_before : KeepsRule start old
  pub kept_after : KeepsRule start new
  pub happened : event (ledger_of start.network.table start.words old.words old.views)
      (ledger_of start.network.table start.words new.words new.views)

-- the answer to a step that goes by an end with number n
abbrev pub answer_at : Start → End → ℕ → Moved
answer_at start (Balancer b) n = On b n (output_wire start.network.table b (n % 2))
answer_at start (Exit i) n = Out i n (name_of start.network.table.width i n - base start)

-- an answer of how many came in: no less than the lane let in and than its earlier answers, more than each name that it
-- holds, and no more than the floor may let in
pub record IsAnswer (start : Start) (v : View) (answer : ℕ) : Type 0 where
  pub own : length v.entries ≤ answer
  pub seen : v.seen ≤ answer
  pub names : All (λ g. g.name < answer) v.grants
  pub quota : answer ≤ start.quota
