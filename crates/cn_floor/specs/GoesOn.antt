-- How what happens on a floor goes on.
use Rattle.std.specs.Prelude.{◌≡◌, ℕ, List, length}
use Rattle.cn_floor.specs.declared.view.Start.{Start}
use Rattle.cn_floor.specs.History.{Event, LeadsTo}
use Rattle.cn_floor.specs.Laws.{ledger_at}
use Rattle.cn_floor.specs.Rule.{FloorState}

-- so many events lead from the ledger of the one state to that of the other
abbrev pub GoesOn : Start → FloorState → FloorState → ℕ → Type 0
GoesOn start old new n =
    (events : List Event) × (length events ≡ n)
    × LeadsTo start.network.table events (ledger_at start old) (ledger_at start new)
