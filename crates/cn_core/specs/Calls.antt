-- What the calls of a core answer and leave.
use Rattle.std.specs.Prelude.{◌≡◌, ℕ, ◌<◌, ◌≤◌, List, [], ◌∷◌, None, Some, length, IsSome}
use Rattle.cn_spec.specs.declared.limits.TheConstants.{MOST_CLIENTS}
use Rattle.cn_tables.specs.Table.{end_of}
use Rattle.cn_core.specs.declared.position.Position.TheVariants.{On, Holds}
use Rattle.cn_ledger.specs.declared.reply.EnterFault.TheVariants.{NoSuchEntry, AlreadyIn, EpochFull, Memory}
use Rattle.cn_ledger.specs.declared.reply.StepFault.TheVariants.{Stranger, HasName}
use Rattle.cn_ledger.specs.declared.reply.Reply.{Reply}
use Rattle.cn_ledger.specs.declared.reply.Reply.TheVariants.{Entered, EnterRefused, Stepped, StepRefused}
use Rattle.cn_core.specs.declared.event.Event.{Event}
use Rattle.cn_core.specs.declared.event.Event.TheVariants.{Enter, Step}
use Rattle.cn_ledger.specs.Events.{Enters}
use Rattle.cn_ledger.specs.Moves.{IsMoveOf}
use Rattle.cn_core.specs.StateLedger.{state_ledger}
use Rattle.cn_core.specs.State.{State, position_in, past, state_after_enter, state_after_step}
use Rattle.cn_core.specs.History.{Agrees, ByHistories, carried_by, MayAnswer, MayAnswerAll, history_after, history_by, moved_past}

-- an enter with this reply takes the old state to the new one
abbrev pub EntersTo : State → ℕ → ℕ → Reply → State → Type 0
EntersTo old client entry Entered new =
    (entry < old.network.table.entries) × (position_in old.clients client ≡ None)
    × (length old.clients < MOST_CLIENTS) × (new ≡ state_after_enter old client entry)
EntersTo old client entry (EnterRefused NoSuchEntry) new = (old.network.table.entries ≤ entry) × (new ≡ old)
EntersTo old client entry (EnterRefused AlreadyIn) new =
    (entry < old.network.table.entries) × IsSome (position_in old.clients client) × (new ≡ old)
EntersTo old client entry (EnterRefused EpochFull) new =
    (entry < old.network.table.entries) × (position_in old.clients client ≡ None)
    × (MOST_CLIENTS ≤ length old.clients) × (new ≡ old)
EntersTo old client entry (EnterRefused Memory) new =
    (entry < old.network.table.entries) × (position_in old.clients client ≡ None)
    × (length old.clients < MOST_CLIENTS) × (new ≡ old)
EntersTo old client entry (Stepped moved) new = ⊥
EntersTo old client entry (StepRefused fault) new = ⊥

-- a step with this reply takes the old state to the new one
abbrev pub StepsTo : State → ℕ → Reply → State → Type 0
StepsTo old client (Stepped moved) new =
    (wire : ℕ) × (position_in old.clients client ≡ Some (On wire))
    × (moved ≡ moved_past old.network.table old.base (end_of old.network.table wire)
    (past old (end_of old.network.table wire)))
    × (new ≡ state_after_step old client (end_of old.network.table wire))
StepsTo old client (StepRefused Stranger) new = (position_in old.clients client ≡ None) × (new ≡ old)
StepsTo old client (StepRefused (HasName name)) new = (position_in old.clients client ≡ Some (Holds name)) × (new ≡ old)
StepsTo old client Entered new = ⊥
StepsTo old client (EnterRefused fault) new = ⊥

-- an event with this reply takes the old state to the new one
abbrev pub TakesTo : State → Event → Reply → State → Type 0
TakesTo old (Enter client entry) reply new = EntersTo old client entry reply new
TakesTo old (Step client) reply new = StepsTo old client reply new

-- by every history and earlier epochs that the old state agrees with this is an answer to the event, and the new state
-- agrees with the history after it
abbrev pub AnswersByHistory : State → Event → Reply → State → Type 0
AnswersByHistory old event reply new =
    (history : List Event) (earlier : List (List Event)) → Agrees old history earlier
    → MayAnswer old.network.table history (carried_by old.network.table earlier) event reply
    × Agrees new (history_after history event reply) earlier

-- by every history and earlier epochs that the old state agrees with these are answers to the events, and the new state
-- agrees with the history after them
abbrev pub RunsByHistory : State → List Event → List Reply → State → Type 0
RunsByHistory old events replies new =
    (history : List Event) (earlier : List (List Event)) → Agrees old history earlier
    → MayAnswerAll old.network.table history (carried_by old.network.table earlier) events replies
    × Agrees new (history_by history events replies) earlier

-- by every history and earlier epochs that the old state agrees with, the new one agrees with no event yet, after these
-- epochs and that of the history
abbrev pub CarriesByHistory : State → State → Type 0
CarriesByHistory old new =
    (history : List Event) (earlier : List (List Event)) → Agrees old history earlier
    → Agrees new [] (history ∷ earlier)

-- if the event is accepted, it is one event on the ledger
abbrev pub IsLedgerEvent : State → Event → Reply → State → Type 0
IsLedgerEvent old (Enter client entry) Entered new =
    ByHistories old (λ history carried.
    Enters old.network.table (state_ledger old history carried)
    (state_ledger new (Enter client entry ∷ history) carried) client entry)
IsLedgerEvent old (Step client) (Stepped moved) new =
    ByHistories old (λ history carried.
    IsMoveOf old.network.table old.base (state_ledger old history carried)
    (state_ledger new (Step client ∷ history) carried) client moved)
IsLedgerEvent old event reply new = Unit {0}

-- events with these replies take the old state to the new one, one after another, each accepted one by one event on the
-- ledger
abbrev pub RunsTo : State → List Event → List Reply → State → Type 0
RunsTo old [] [] new = new ≡ old
RunsTo old (event ∷ events) (reply ∷ replies) new =
    (mid : State) × TakesTo old event reply mid × IsLedgerEvent old event reply mid
    × RunsTo mid events replies new
RunsTo old [] (reply ∷ replies) new = ⊥
RunsTo old (event ∷ events) [] new = ⊥
