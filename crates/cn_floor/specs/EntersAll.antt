-- Clients of a list come in by one entry in one atomic step.
use Rattle.std.specs.Prelude.{◌≡◌, ℕ, zero, suc, ◌+◌, List, [], length, slice_index}
use Rattle.cn_tables.specs.Table.{Table}
use Rattle.cn_ledger.specs.Events.{Enters}
use Rattle.cn_ledger.specs.Ledger.{Ledger}
use Rattle.cn_floor.specs.declared.view.Start.{Start}
use Rattle.cn_floor.specs.declared.view.View.{View}
use Rattle.cn_floor.specs.Steps.{IsAtomicStep}
use Rattle.cn_floor.specs.Views.{after_enter, no_start}

-- so many clients of a list, from a place on, come in by an entry one after the other; each one's token has the number
-- of its place
unfoldable pub after_enters : List ℕ → ℕ → ℕ → ℕ → View → View
after_enters clients entry place zero v = v
after_enters clients entry place (suc n) v =
    after_enters clients entry (suc place) n (after_enter place (slice_index clients place) entry v)

-- all clients of a list, in one step
abbrev pub after_enter_all : List ℕ → ℕ → View → View
after_enter_all clients entry v = record (after_enters clients entry 0 (length clients) v) { steps = v.steps + 1 }

-- so many clients of a list, from a place on, come in by an entry one after the other: so many events in turn
unfoldable pub EnterInTurn : Table → List ℕ → ℕ → ℕ → ℕ → Ledger → Ledger → Type 0
EnterInTurn t clients entry place zero old new = old ≡ new
EnterInTurn t clients entry place (suc n) old new =
    (between : Ledger) × Enters t old between (slice_index clients place) entry
    × EnterInTurn t clients entry (suc place) n between new

-- all clients of a list come in by an entry in one step, which is as many events in turn
abbrev pub ComeTogether : Start → List ℕ → ℕ → View → View → Type 0
ComeTogether start clients entry v w =
    (w ≡ after_enter_all clients entry v)
    × IsAtomicStep start v w (EnterInTurn start.network.table clients entry 0 (length clients))

-- whose clients come in by which entry, on which floor
pub record EnteringAll : Type 0 where
  pub start : Start
  pub clients : List ℕ
  pub entry : ℕ

-- nobody, for a step of which nothing is asked
abbrev pub nobody_enters : EnteringAll
nobody_enters = record { start = no_start; clients = []; entry = 0 }

-- they come in together
abbrev pub AllComeIn : EnteringAll → View → View → Type 0
AllComeIn e v w = ComeTogether e.start e.clients e.entry v w
