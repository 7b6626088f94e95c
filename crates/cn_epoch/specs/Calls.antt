-- What the calls of epochs answer and leave.
use Rattle.std.specs.Prelude.{◌≡◌, ℕ, ◌+◌, ◌≤◌, ◌<◌, List, [], ◌∷◌, Option, length, slice_index}
use Rattle.cn_spec.specs.Step.{share}
use Rattle.cn_core.specs.declared.event.Event.{Event}
use Rattle.cn_core.specs.declared.event.Event.TheVariants.{Enter as EnterEvent, Step as StepEvent}
use Rattle.cn_core.specs.Calls as core
use Rattle.cn_core.specs.Calls.{IsLedgerEvent}
use Rattle.cn_core.specs.History.{MayAnswer, history_after, carried_by}
use Rattle.cn_core.specs.State.{inside_in}
use Rattle.cn_ledger.specs.declared.reply.Reply.{Reply}
use Rattle.cn_core.specs.Tight.{ListsStateHolders}
use Rattle.cn_ledger.specs.declared.answer.Answer.{Answer}
use Rattle.cn_ledger.specs.declared.answer.Answer.TheVariants.{Replied, Turned, TurnRefused}
use Rattle.cn_ledger.specs.declared.answer.TurnFault.TheVariants.{NotQuiet, Memory}
use Rattle.cn_ledger.specs.declared.command.Command.{Command}
use Rattle.cn_ledger.specs.declared.command.Command.TheVariants.{Enter, Step, Turn}
use Rattle.cn_ledger.specs.declared.record.EpochRecord.{EpochRecord}
use Rattle.cn_epoch.specs.History.{EpochsAgree, Epochs, MayAnswerCommands, MayAnswerCommand, MayTurn, cut_by, history_after_command, history_by_commands, kept_after, kept_by, next, turns_after, turns_by, earlier_in}
use Rattle.cn_epoch.specs.Turns.{IsTightRecord}

-- a record describes the epoch that stands open: how many ended before it, how many clients entered it, how many left
-- by each exit beyond those that are carried, and its clients by name
pub record TellsEpoch (epochs : Epochs) (r : EpochRecord) : Type 0 where
  pub number : r.number ≡ epochs.number
  pub clients : r.clients ≡ length epochs.core.clients
  pub exits : length r.counts.items ≡ epochs.core.network.table.width
  pub counts : (exit : ℕ) → exit < epochs.core.network.table.width
      → slice_index r.counts.items exit + share epochs.core.base epochs.core.network.table.width exit
      ≡ slice_index epochs.core.visits exit
  pub holders : ListsStateHolders epochs.core r.holders.items

-- a turn with this answer takes the old epochs to the new ones
abbrev pub TurnsTo : Epochs → Answer → Epochs → Type 0
TurnsTo old (Turned r) new =
    (inside_in old.core ≡ 0) × TellsEpoch old r × IsTightRecord old.core.network.table.width old.core.base r
    × (new ≡ record { number = old.number + 1; carries = old.carries; core = next old.carries old.core })
TurnsTo old (TurnRefused (NotQuiet s)) new = (1 ≤ s) × (s ≡ inside_in old.core) × (new ≡ old)
TurnsTo old (TurnRefused Memory) new = (inside_in old.core ≡ 0) × (new ≡ old)
TurnsTo old (Replied reply) new = ⊥

-- an event with this answer takes the old epochs to the new ones, and is one event on the ledger if it is accepted; no
-- epoch ends
abbrev pub RepliesTo : Epochs → Event → Answer → Epochs → Type 0
RepliesTo old event (Replied reply) new =
    core.TakesTo old.core event reply new.core × IsLedgerEvent old.core event reply new.core
    × (new.number ≡ old.number) × (new.carries ≡ old.carries)
RepliesTo old event (Turned r) new = ⊥
RepliesTo old event (TurnRefused fault) new = ⊥

-- by every number of turns, history and earlier epochs that the old epochs agree with this is a reply to the event, and
-- the new epochs agree with those after it: no epoch ends
abbrev pub RepliesByHistory : Epochs → Event → Reply → Epochs → Type 0
RepliesByHistory old event reply new =
    (turns : ℕ) (history : List Event) (kept : Option (List (List Event))) → EpochsAgree old turns history kept
    → MayAnswer old.core.network.table history (carried_by old.core.network.table (earlier_in kept)) event reply
    × EpochsAgree new turns (history_after history event reply) kept

-- and of a turn
abbrev pub TurnsByHistory : Epochs → Answer → Epochs → Type 0
TurnsByHistory old answer new =
    (turns : ℕ) (history : List Event) (kept : Option (List (List Event))) → EpochsAgree old turns history kept
    → MayTurn old.core.network.table turns history (carried_by old.core.network.table (earlier_in kept)) answer
    × EpochsAgree new (turns_after turns answer) (cut_by history answer) (kept_after kept history answer)

-- a command with this answer takes the old epochs to the new ones
abbrev pub TakesCommandTo : Epochs → Command → Answer → Epochs → Type 0
TakesCommandTo old (Enter client entry) answer new = RepliesTo old (EnterEvent client entry) answer new
TakesCommandTo old (Step client) answer new = RepliesTo old (StepEvent client) answer new
TakesCommandTo old Turn answer new = TurnsTo old answer new

-- by every number of turns, history and earlier epochs that the old epochs agree with this is an answer to the command,
-- and the new epochs agree with those after it
abbrev pub AnswersCommandByHistory : Epochs → Command → Answer → Epochs → Type 0
AnswersCommandByHistory old command answer new =
    (turns : ℕ) (history : List Event) (kept : Option (List (List Event))) → EpochsAgree old turns history kept
    → MayAnswerCommand old.core.network.table turns history (carried_by old.core.network.table (earlier_in kept))
    command answer
    × EpochsAgree new (turns_after turns answer) (history_after_command history command answer)
    (kept_after kept history answer)

-- commands with these answers take the old epochs to the new ones, one after another
abbrev pub RunsCommandsTo : Epochs → List Command → List Answer → Epochs → Type 0
RunsCommandsTo old [] [] new = new ≡ old
RunsCommandsTo old (command ∷ commands) (answer ∷ answers) new =
    (mid : Epochs) × TakesCommandTo old command answer mid × RunsCommandsTo mid commands answers new
RunsCommandsTo old [] (answer ∷ answers) new = ⊥
RunsCommandsTo old (command ∷ commands) [] new = ⊥

-- by every number of turns, history and earlier epochs that the old epochs agree with these are answers to the
-- commands, and the new epochs agree with those after them
abbrev pub RunsCommandsByHistory : Epochs → List Command → List Answer → Epochs → Type 0
RunsCommandsByHistory old commands answers new =
    (turns : ℕ) (history : List Event) (kept : Option (List (List Event))) → EpochsAgree old turns history kept
    → MayAnswerCommands old.core.network.table turns history kept commands answers
    × EpochsAgree new (turns_by turns answers) (history_by_commands history commands answers)
    (kept_by kept history commands answers)
