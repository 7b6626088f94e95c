-- What happened on a floor, event by event.
use Rattle.std.specs.Prelude.{◌≡◌, ℕ, List, [], ◌∷◌}
use Rattle.cn_tables.specs.declared.end.End.{End}
use Rattle.cn_tables.specs.declared.end.End.TheVariants.{Balancer, Exit}
use Rattle.cn_tables.specs.Table.{Table, end_of}
use Rattle.cn_ledger.specs.Events.{Enters, Leaves, Passes}
use Rattle.cn_ledger.specs.Ledger.{Ledger}

-- a client comes in by an entry, or goes on from a wire
pub data Event : Type 0 where
  Enter : ℕ → ℕ → Event
  Step : ℕ → ℕ → Event

-- a client goes from a wire by its end
abbrev pub GoesFrom : Table → Ledger → Ledger → ℕ → ℕ → End → Type 0
GoesFrom t old new client wire (Balancer b) = Passes t old new client wire b
GoesFrom t old new client wire (Exit i) = Leaves t old new client wire i

-- the event makes the one ledger of the other
abbrev pub Happens : Table → Event → Ledger → Ledger → Type 0
Happens t (Enter client entry) old new = Enters t old new client entry
Happens t (Step client wire) old new = GoesFrom t old new client wire (end_of t wire)

-- so do the events of a history in turn; the newest stands first
unfoldable pub LeadsTo : Table → List Event → Ledger → Ledger → Type 0
LeadsTo t [] old new = old ≡ new
LeadsTo t (event ∷ history) old new =
    (between : Ledger) × LeadsTo t history old between × Happens t event between new
