-- A sweep: all tokens of a wire go by its end in one atomic step, which is as many events in turn.
use Rattle.std.specs.Prelude.{◌≡◌, ℕ, ◌+◌, ◌-◌, ◌%◌, ◌<◌, ◌≤◌, List, [], ◌∷◌, length}
use Rattle.cn_spec.specs.Step.{name_of}
use Rattle.cn_tables.specs.declared.end.End.{End}
use Rattle.cn_tables.specs.declared.end.End.TheVariants.{Balancer, Exit}
use Rattle.cn_tables.specs.Table.{IsWellFormed, Stands, Table, end_of, output_wire}
use Rattle.cn_ledger.specs.Ledger.{Ledger}
use Rattle.cn_yard.specs.Deals.{IsCleared, IsDealt}
use Rattle.cn_yard.specs.Lists.{Yard, on, times_in}
use Rattle.cn_floor.specs.declared.view.Grant.{Grant}
use Rattle.cn_floor.specs.declared.view.Start.{Start}
use Rattle.cn_floor.specs.declared.view.Sweep.{Sweep}
use Rattle.cn_floor.specs.declared.view.Sweep.TheVariants.{On, Out}
use Rattle.cn_floor.specs.declared.view.View.{View}
use Rattle.cn_floor.specs.History.{GoesFrom}
use Rattle.cn_floor.specs.Lane.{LaneValue}
use Rattle.cn_floor.specs.Steps.{IsAtomicStep}
use Rattle.cn_floor.specs.Views.{after_step, base, no_start, own_count}
use Rattle.cn_floor.specs.Words.{count_in}

-- tokens go by an end one after the other, with the numbers from n on
unfoldable pub after_steps : End → ℕ → List (ℕ × ℕ) → View → View
after_steps end n [] v = v
after_steps end n (e ∷ rest) v = after_steps end (n + 1) rest (after_step e.0 e.1 end n v)

-- those of a wire, in one step
abbrev pub after_sweep : ℕ → End → ℕ → View → View
after_sweep wire end n v = record (after_steps end n (on v.tokens wire) v) { steps = v.steps + 1 }

-- clients go from a wire by its end one after the other, with the numbers from n on: so many events in turn
unfoldable pub GoInTurn : Table → ℕ → End → ℕ → List (ℕ × ℕ) → Ledger → Ledger → Type 0
GoInTurn t wire end n [] old new = old ≡ new
GoInTurn t wire end n (e ∷ rest) old new =
    (between : Ledger) × GoesFrom t old between e.1 wire end × (old.count end ≡ n)
    × GoInTurn t wire end (n + 1) rest between new

-- whose sweep of which wire, on which floor
pub record Sweeping : Type 0 where
  pub start : Start
  pub wire : ℕ
  pub end : End

-- nobody, for a sweep of which nothing is asked
abbrev pub nobody_sweeps : Sweeping
nobody_sweeps = record { start = no_start; wire = 0; end = Exit 0 }

-- the tokens of a wire go by its end, and the first gets the number n
pub record AreLetBy (start : Start) (v w : View) (wire : ℕ) (end : End) (n : ℕ) : Type 0 where
  -- it is one step, and as many events in turn as tokens
  pub step : IsAtomicStep start v w (GoInTurn start.network.table wire end n (on v.tokens wire))
  pub few : n + length (on v.tokens wire) ≤ base start + start.quota
  -- no name is that of a client that came before the floor began
  pub late : (i : ℕ) → end ≡ Exit i → base start ≤ name_of start.network.table.width i n
  -- a lane with the whole quota is given the counts of its own
  pub sole : v.quota + length v.entries ≡ start.quota
      → n ≡ count_in start.network.table start.words end + own_count end v

-- all tokens of the wire go on with the numbers from n on, by one step
abbrev pub AllGoOn : Sweeping → View → ℕ → View → Type 0
AllGoOn s v n w = (w ≡ after_sweep s.wire s.end n v) × AreLetBy s.start v w s.wire s.end n

-- the tokens of one wire go by its end, and then those of the next of these wires, by one step each; each time some
-- stand there
unfoldable pub SweptBy : Start → List ℕ → View → View → Type 0
SweptBy start [] v w = w ≡ v
SweptBy start (wire ∷ rest) v w =
    let end = end_of start.network.table wire in
    (n : ℕ) × (0 < length (on v.tokens wire)) × AreLetBy start v (after_sweep wire end n v) wire end n
    × SweptBy start rest (after_sweep wire end n v) w

-- the grants of tokens that leave by exit i, with the visits from n on; `less` is taken from each name
unfoldable pub grants_out : ℕ → ℕ → ℕ → ℕ → List (ℕ × ℕ) → List Grant
grants_out width less i n [] = []
grants_out width less i n (e ∷ rest) =
    record { client = e.1; exit = i; visit = n; name = name_of width i n - less } ∷ grants_out width less i (n + 1) rest

-- ---- what a lane is answered

-- of this many tokens the first got number n at an end
abbrev pub sweep_at : End → ℕ → ℕ → Sweep
sweep_at (Balancer b) n tokens = On b n tokens
sweep_at (Exit i) n tokens = Out i n tokens

-- the tokens of a wire stand last on the two outputs by turns, or are gone
abbrev pub PutsAll : Start → ℕ → End → ℕ → Yard → Yard → Type 0
PutsAll start wire (Balancer b) n old new =
    IsDealt wire (n % 2) (output_wire start.network.table b 0) (output_wire start.network.table b 1) old new
PutsAll start wire (Exit i) n old new = IsCleared wire old new

-- all tokens of a wire go by its end, in their order, with the numbers from n on
pub record SweepsOn (old new : LaneValue) (wire n : ℕ) (answer : Sweep) : Type 0 where
  pub home : new.home ≡ old.home
  pub view : new.view ≡ after_sweep wire (end_of old.home.start.network.table wire) n old.view
  pub yard : PutsAll old.home.start wire (end_of old.home.start.network.table wire) n old.yard new.yard
  pub room : new.room ≡ old.room
  pub answered : answer ≡ sweep_at (end_of old.home.start.network.table wire) n (length (on old.yard.lists wire))
  pub by : AreLetBy old.home.start old.view new.view wire (end_of old.home.start.network.table wire) n

-- all tokens of a wire, of which there are some, go by an end together, and the first gets the number n; nobody stands
-- on a greater wire
pub record GoTogether (start : Start) (wire : ℕ) (end : End) (n : ℕ) (v w : View) : Type 0 where
  pub formed : IsWellFormed start.network.table
  pub low : wire < length start.network.table.ends
  pub ends : end_of start.network.table wire ≡ end
  pub stands : Stands start.network.table end
  pub once : (token : ℕ) → times_in v.tokens token ≤ 1
  pub wires : length v.tokens ≡ length start.network.table.ends
  pub of : v.start ≡ start
  pub some : 0 < length (on v.tokens wire)
  pub above : (u : ℕ) → wire < u → on v.tokens u ≡ []
  pub went : w ≡ after_sweep wire end n v
  pub by : AreLetBy start v w wire end n
