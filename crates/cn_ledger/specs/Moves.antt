-- What a step of a token is to a ledger.
use Rattle.std.specs.Prelude.{◌≡◌, ℕ, ◌+◌, ◌%◌}
use Rattle.cn_spec.specs.Step.{name_of}
use Rattle.cn_tables.specs.declared.end.End.TheVariants.{Balancer, Exit}
use Rattle.cn_tables.specs.Table.{Table, output_wire}
use Rattle.cn_ledger.specs.declared.moved.Moved.{Moved}
use Rattle.cn_ledger.specs.declared.moved.Moved.TheVariants.{On as Passed, Out}
use Rattle.cn_ledger.specs.Ledger.{Ledger}
use Rattle.cn_ledger.specs.Events.{Passes, Leaves}

-- a step that moved a client so is one event on the ledger: a passage, or a leave. The name that is given is that of
-- the visit minus the base, the number of those that came in before the epoch.
abbrev pub IsMoveOf : Table → ℕ → Ledger → Ledger → ℕ → Moved → Type 0
IsMoveOf table base old new client (Passed balancer number wire) =
    (from : ℕ) × Passes table old new client from balancer
    × (number ≡ old.count (Balancer balancer)) × (wire ≡ output_wire table balancer (number % 2))
IsMoveOf table base old new client (Out exit visit name) =
    (from : ℕ) × Leaves table old new client from exit
    × (visit ≡ old.count (Exit exit)) × (name + base ≡ name_of table.width exit visit)
