-- The answers of epochs, by the number of turns done, the history since the last of them, the newest event first, and
-- the earlier epochs since the counts were zero.
use Rattle.std.specs.Prelude.{◌≡◌, ℕ, ◌+◌, ◌<◌, ◌≤◌, Bool, true, false, List, [], ◌∷◌, Option, None, Some, is_some, length, slice_index}
use Rattle.std.specs.Option.{option_map}
use Rattle.cn_tables.specs.Table.{Table}
use Rattle.cn_tables.specs.declared.end.End.TheVariants.{Exit}
use Rattle.cn_core.specs.declared.event.Event.{Event}
use Rattle.cn_core.specs.declared.event.Event.TheVariants.{Enter as EnterEvent, Step as StepEvent}
use Rattle.cn_core.specs.declared.position.Position.TheVariants.{Holds}
use Rattle.cn_core.specs.History as core
use Rattle.cn_core.specs.History.{Carried, carried_by, enters_of, inside_of, position_after, steps_before}
use Rattle.cn_core.specs.State.{State, after_carry, start}
use Rattle.cn_ledger.specs.declared.answer.Answer.{Answer}
use Rattle.cn_ledger.specs.declared.answer.Answer.TheVariants.{Replied, Turned, TurnRefused}
use Rattle.cn_ledger.specs.declared.answer.TurnFault.TheVariants.{NotQuiet, Memory}
use Rattle.cn_ledger.specs.declared.command.Command.{Command}
use Rattle.cn_ledger.specs.declared.command.Command.TheVariants.{Enter, Step, Turn}
use Rattle.cn_ledger.specs.declared.record.EpochRecord.{EpochRecord}

-- epochs as contracts see them: how many have ended, whether a turn carries the counts on, and the state of the epoch
-- that stands open
pub record Epochs : Type 0 where
  pub number : ℕ
  pub carries : Bool
  pub core : State

-- the state in which the next epoch begins: the counts are cleared, or carried on
abbrev pub next : Bool → State → State
next false core = start core.network
next true core = after_carry core

-- the earlier epochs since the counts were zero: none if turns clear
abbrev pub earlier_in : Option (List (List Event)) → List (List Event)
earlier_in None = []
earlier_in (Some earlier) = earlier

-- epochs agree with a number of turns done, the history since the last of them and, if turns carry, the earlier epochs
pub record EpochsAgree (epochs : Epochs) (turns : ℕ) (history : List Event)
    (kept : Option (List (List Event))) : Type 0 where
  pub number : epochs.number ≡ turns
  pub carries : epochs.carries ≡ is_some kept
  pub core : core.Agrees epochs.core history (earlier_in kept)

-- something holds of each number of turns, each history and what is carried, that epochs agree with
abbrev pub ByEpochHistories : Epochs → (ℕ → List Event → Carried → Type 0) → Type 0
ByEpochHistories epochs P =
    (turns : ℕ) (history : List Event) (kept : Option (List (List Event))) → EpochsAgree epochs turns history kept
    → P turns history (carried_by epochs.core.network.table (earlier_in kept))

-- the record of a history: its enters, its leaves by exit, and the client of each name
pub record IsRecordOf (table : Table) (turns : ℕ) (history : List Event) (carried : Carried)
    (r : EpochRecord) : Type 0 where
  pub number : r.number ≡ turns
  pub clients : r.clients ≡ enters_of history
  pub exits : length r.counts.items ≡ table.width
  pub counts : (i : ℕ) → i < table.width
      → slice_index r.counts.items i + carried.steps (Exit i) ≡ steps_before table history carried (Exit i)
  pub names : length r.holders.items ≡ enters_of history
  pub holders : (name : ℕ) → name < enters_of history
      → position_after table history carried (slice_index r.holders.items name) ≡ Some (Holds name)

-- the answers that a turn may have: if nobody is inside, its record or want of memory in its place; otherwise how many
-- are inside
abbrev pub MayTurn : Table → ℕ → List Event → Carried → Answer → Type 0
MayTurn table turns history carried (Turned r) =
    (inside_of table history carried ≡ 0) × IsRecordOf table turns history carried r
MayTurn table turns history carried (TurnRefused (NotQuiet s)) = (1 ≤ s) × (s ≡ inside_of table history carried)
MayTurn table turns history carried (TurnRefused Memory) = inside_of table history carried ≡ 0
MayTurn table turns history carried (Replied reply) = ⊥

-- epochs may answer an event by what a core may reply to it
abbrev pub MayReply : Table → List Event → Carried → Event → Answer → Type 0
MayReply table history carried event (Replied reply) = core.MayAnswer table history carried event reply
MayReply table history carried event (Turned r) = ⊥
MayReply table history carried event (TurnRefused fault) = ⊥

-- the answers that a command may have
abbrev pub MayAnswerCommand : Table → ℕ → List Event → Carried → Command → Answer → Type 0
MayAnswerCommand table turns history carried (Enter client entry) answer =
    MayReply table history carried (EnterEvent client entry) answer
MayAnswerCommand table turns history carried (Step client) answer =
    MayReply table history carried (StepEvent client) answer
MayAnswerCommand table turns history carried Turn answer = MayTurn table turns history carried answer

-- how many turns are done after an answer
abbrev pub turns_after : ℕ → Answer → ℕ
turns_after turns (Turned r) = turns + 1
turns_after turns (Replied reply) = turns
turns_after turns (TurnRefused fault) = turns

-- the history after an answer to an event
abbrev pub replied_to : List Event → Event → Answer → List Event
replied_to history event (Replied reply) = core.history_after history event reply
replied_to history event (Turned r) = history
replied_to history event (TurnRefused fault) = history

-- and to a turn, which cuts it if it is done
abbrev pub cut_by : List Event → Answer → List Event
cut_by history (Turned r) = []
cut_by history (Replied reply) = history
cut_by history (TurnRefused fault) = history

-- the history after an answer to a command
abbrev pub history_after_command : List Event → Command → Answer → List Event
history_after_command history (Enter client entry) answer = replied_to history (EnterEvent client entry) answer
history_after_command history (Step client) answer = replied_to history (StepEvent client) answer
history_after_command history Turn answer = cut_by history answer

-- the earlier epochs after an answer, if turns carry: a turn that is done adds the history
abbrev pub earlier_after : List (List Event) → List Event → Answer → List (List Event)
earlier_after earlier history (Turned r) = history ∷ earlier
earlier_after earlier history (Replied reply) = earlier
earlier_after earlier history (TurnRefused fault) = earlier

-- the same, if turns may clear: then no earlier epochs are kept
abbrev pub kept_after : Option (List (List Event)) → List Event → Answer → Option (List (List Event))
kept_after kept history answer = option_map (λ earlier. earlier_after earlier history answer) kept

-- epochs may give these answers to these commands, one after another
abbrev pub MayAnswerCommands : Table → ℕ → List Event → Option (List (List Event)) → List Command → List Answer → Type 0
MayAnswerCommands table turns history kept [] [] = Unit {0}
MayAnswerCommands table turns history kept (command ∷ commands) (answer ∷ answers) =
    MayAnswerCommand table turns history (carried_by table (earlier_in kept)) command answer
    × MayAnswerCommands table (turns_after turns answer) (history_after_command history command answer)
    (kept_after kept history answer) commands answers
MayAnswerCommands table turns history kept [] (answer ∷ answers) = ⊥
MayAnswerCommands table turns history kept (command ∷ commands) [] = ⊥

-- how many turns are done once commands have these answers
abbrev pub turns_by : ℕ → List Answer → ℕ
turns_by turns [] = turns
turns_by turns (answer ∷ answers) = turns_by (turns_after turns answer) answers

-- the history then
abbrev pub history_by_commands : List Event → List Command → List Answer → List Event
history_by_commands history [] answers = history
history_by_commands history (command ∷ commands) [] = history
history_by_commands history (command ∷ commands) (answer ∷ answers) =
    history_by_commands (history_after_command history command answer) commands answers

-- the earlier epochs then, if turns carry
abbrev pub earlier_by : List (List Event) → List Event → List Command → List Answer → List (List Event)
earlier_by earlier history [] answers = earlier
earlier_by earlier history (command ∷ commands) [] = earlier
earlier_by earlier history (command ∷ commands) (answer ∷ answers) =
    earlier_by (earlier_after earlier history answer) (history_after_command history command answer) commands answers

-- the same, if turns may clear
abbrev pub kept_by : Option (List (List Event)) → List Event → List Command → List Answer → Option (List (List Event))
kept_by kept history commands answers = option_map (λ earlier. earlier_by earlier history commands answers) kept
