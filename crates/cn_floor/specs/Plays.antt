-- What each kind of atomic step says of the lane's view before and after.
use Rattle.std.specs.Prelude.{◌≡◌, ℕ, ◌+◌, ◌-◌, ◌≤◌, ◌++◌, ◌∷◌, [], length, sum}
use Rattle.cn_tables.specs.declared.end.End.{End}
use Rattle.cn_tables.specs.declared.end.End.TheVariants.{Exit}
use Rattle.cn_ledger.specs.Moves.{IsMoveOf}
use Rattle.cn_ledger.specs.Events.{Enters}
use Rattle.cn_yard.specs.Lists.{tokens_in}
use Rattle.cn_floor.specs.declared.view.Start.{Start}
use Rattle.cn_floor.specs.declared.view.View.{View}
use Rattle.cn_floor.specs.Steps.{IsAnswer, IsAtomicStep, StoodInState, answer_at}
use Rattle.cn_floor.specs.Views.{after_enter, after_load, after_look, after_step, base, no_start, own_count}
use Rattle.cn_floor.specs.Words.{count_in}

-- who comes in by which entry, on which floor
pub record Coming : Type 0 where
  pub start : Start
  pub token : ℕ
  pub client : ℕ
  pub entry : ℕ

-- nobody, for a step of which nothing is asked
abbrev pub nobody_comes : Coming
nobody_comes = record { start = no_start; token = 0; client = 0; entry = 0 }

-- the client comes in, and that is one event
abbrev pub ComesIn : Coming → View → View → Type 0
ComesIn c v w =
    (w ≡ after_enter c.token c.client c.entry v)
    × IsAtomicStep c.start v w (λ old new. Enters c.start.network.table old new c.client c.entry)

-- who goes from which wire by which end, on which floor
pub record Going : Type 0 where
  pub start : Start
  pub token : ℕ
  pub client : ℕ
  pub wire : ℕ
  pub end : End

-- nobody, for a step of which nothing is asked
abbrev pub nobody_goes : Going
nobody_goes = record { start = no_start; token = 0; client = 0; wire = 0; end = Exit 0 }

-- a client goes by an end, and gets the number n
pub record IsLetBy (start : Start) (v w : View) (client : ℕ) (end : End) (n : ℕ) : Type 0 where
  -- it is one event
  pub step : IsAtomicStep start v w
      (λ old new. IsMoveOf start.network.table (base start) old new client (answer_at start end n))
  pub few : n ≤ base start + start.quota
  -- a lane with the whole quota is given the count of its own
  pub sole : v.quota + length v.entries ≡ start.quota
      → n ≡ count_in start.network.table start.words end + own_count end v

-- the client goes on with the number n, and that is one event
abbrev pub GoesOn : Going → View → ℕ → View → Type 0
GoesOn g v n w = (w ≡ after_step g.token g.client g.end n v) × IsLetBy g.start v w g.client g.end n

-- what a load says
pub record IsLoad (start : Start) (v : View) (n : ℕ) : Type 0 where
  pub few : sum (v.loads ++ n ∷ []) ≤ base start + start.quota
  pub last : length v.loads + 1 ≡ start.network.table.entries
      → (base start ≤ sum (v.loads ++ n ∷ [])) × IsAnswer start v (sum (v.loads ++ n ∷ []) - base start)

-- the number n is loaded, and the lane then stands in a state
abbrev pub Loads : Start → View → ℕ → View → Type 0
Loads start v n w = (w ≡ after_load start n v) × IsLoad start v n × StoodInState start w

-- a look, in a state in which the lane has its view
abbrev pub Looks : Start → View → View → Type 0
Looks start v w =
    (w ≡ after_look v) × StoodInState start w × (tokens_in v.tokens + length v.grants + v.quota ≤ start.quota)
