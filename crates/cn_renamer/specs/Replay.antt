-- The text of a replay, and which fault is given if it is not written.
use Rattle.std.specs.Prelude.{ℕ, ◌≡◌, ◌≢◌, All, IfSome, List, [], None, Option}
use Rattle.std.specs.List.{AllZip}
use Rattle.cn_tables.specs.Network.{Network}
use Rattle.cn_core.specs.History.{carried_by, enters_of, inside_of}
use Rattle.cn_ledger.specs.declared.answer.Answer.{Answer}
use Rattle.cn_ledger.specs.declared.answer.Answer.TheVariants.{Replied, Turned, TurnRefused}
use Rattle.cn_ledger.specs.declared.command.Command.{Command}
use Rattle.cn_epoch.specs.Calls.{AnswersCommandByHistory, RunsCommandsByHistory}
use Rattle.cn_epoch.specs.History.{Epochs, MayAnswerCommands, history_by_commands, turns_by}
use Rattle.cn_ledger.specs.Answers.{HadMemory}
use Rattle.cn_texts.specs.Reading.Records.{records_of}
use Rattle.cn_texts.specs.Writing.Replay.{IsShowable, answer_line, replay_text}
use Rattle.cn_texts.specs.Reading.Schedule.{IsSchedule, IsScheduleFault}
use Rattle.cn_texts.specs.declared.reading.schedule_fault.ScheduleCause.{ScheduleCause}
use Rattle.cn_texts.specs.declared.reading.schedule_fault.ScheduleCause.TheVariants as cause
use Rattle.cn_texts.specs.declared.reading.schedule_fault.ScheduleFault.{ScheduleFault}
use Rattle.cn_texts.specs.Writing.Written.{Written, First, Nothing}
use Rattle.cn_nets.specs.Net.{Description, IsNetworkOf}
use Rattle.cn_renamer.specs.declared.output_fault.OutputFault.{OutputFault}
use Rattle.cn_renamer.specs.declared.output_fault.OutputFault.TheVariants as output
use Rattle.cn_renamer.specs.declared.replaying.ReplayFault.{ReplayFault}
use Rattle.cn_renamer.specs.declared.replaying.ReplayFault.TheVariants.{Schedule, Memory, Write}

-- the same answer, whose record has no counts if it is of a turn
abbrev pub IsWithoutCounts : Answer → Answer → Type 0
IsWithoutCounts (Replied reply) kept = kept ≡ Replied reply
IsWithoutCounts (TurnRefused fault) kept = kept ≡ TurnRefused fault
IsWithoutCounts (Turned r) (Turned kept) =
    (kept.number ≡ r.number) × (kept.clients ≡ r.clients) × (kept.counts.items ≡ []) × (kept.holders ≡ r.holders)
IsWithoutCounts (Turned r) (Replied reply) = ⊥
IsWithoutCounts (Turned r) (TurnRefused fault) = ⊥

-- this is kept of an answer: it has the same lines, and can be shown
pub record IsKept (width : ℕ) (answer kept : Answer) : Type 0 where
  pub lines : (command : Command) → answer_line width command answer ≡ answer_line width command kept
  pub showable : IsShowable width kept

-- the command has an answer by history, which is not want of memory, and this is kept of it
pub record IsAnsweredAs (old : Epochs) (command : Command) (answer kept : Answer) (new : Epochs) : Type 0 where
  pub by_history : AnswersCommandByHistory old command answer new
  pub memory : HadMemory answer
  pub is_kept : IsKept old.core.network.table.width answer kept

-- so have the commands, one after another
pub record AreAnsweredAs (old : Epochs) (commands : List Command) (answers kept : List Answer)
    (new : Epochs) : Type 0 where
  pub by_history : RunsCommandsByHistory old commands answers new
  pub memory : All HadMemory answers
  pub are_kept : AllZip (IsKept old.core.network.table.width) answers kept

-- this text is that of a replay of the commands on epochs that nobody has entered: their answers by history, none of
-- them want of memory
pub record IsReplayText (network : Network) (commands : List Command) (text : List ℕ) : Type 0 where
  pub answers : List Answer
  pub by_history : MayAnswerCommands network.table 0 [] None commands answers
  pub memory : All HadMemory answers
  -- the end line gives the number of epochs that ended, and how many entered the open one and are inside
  pub replayed : text
      ≡ replay_text network commands answers (turns_by 0 answers) (enters_of (history_by_commands [] commands answers))
      (inside_of network.table (history_by_commands [] commands answers) (carried_by network.table []))

-- this text is that of a replay of the commands on a network of this kind and width
pub record IsReplayOfCommands (net : Description) (commands : List Command) (text : List ℕ) : Type 0 where
  pub network : Network
  pub built : IsNetworkOf net network
  pub replayed : IsReplayText network commands text

-- the bytes that were read are a schedule, and this is the text of the replay of its commands
pub record IsReplayOf (net : Description) (bytes text : List ℕ) : Type 0 where
  pub commands : List Command
  pub schedule : IsSchedule (records_of bytes) commands
  pub replayed : IsReplayOfCommands net commands text

-- this text is that of a replay of the bytes that a reader has left, if they are known
abbrev pub IsReplayOfKnown : Description → Option (List ℕ) → List ℕ → Type 0
IsReplayOfKnown net known text = IfSome known (λ bytes. IsReplayOf net bytes text)

-- how much of its text a replay has written that met a fault
abbrev pub until_replay : ReplayFault → Written
until_replay (Schedule fault) = Nothing
until_replay Memory = Nothing
until_replay (Write written) = First written

-- a schedule that is refused has its own fault, which is never want of memory
abbrev pub IsReplayFault : Option (List ℕ) → ReplayFault → Type 0
IsReplayFault known (Schedule fault) =
    (fault.cause ≢ cause.Memory) × IfSome known (λ bytes. IsScheduleFault (records_of bytes) fault)
IsReplayFault known Memory = Unit {0}
IsReplayFault known (Write written) = Unit {0}

-- the fault of a replay by that of the schedule; want of memory is a fault of its own
abbrev pub fault_of_cause : ScheduleFault → ScheduleCause → ReplayFault
fault_of_cause fault cause.Memory = Memory
fault_of_cause fault cause.Read = Schedule fault
fault_of_cause fault cause.Header = Schedule fault
fault_of_cause fault cause.FieldCount = Schedule fault
fault_of_cause fault cause.Op = Schedule fault
fault_of_cause fault cause.ClientNumber = Schedule fault
fault_of_cause fault cause.WireNumber = Schedule fault
fault_of_cause fault cause.ScheduleFull = Schedule fault

-- the fault of a replay by that of its schedule
abbrev pub fault_of_schedule : ScheduleFault → ReplayFault
fault_of_schedule fault = fault_of_cause fault fault.cause

-- and of a text that was not written whole
abbrev pub fault_of_output : OutputFault → ReplayFault
fault_of_output output.Memory = Memory
fault_of_output (output.Write written) = Write written

-- the status that a fault ends the program with
abbrev pub status_of_replay : ReplayFault → ℕ
status_of_replay (Schedule fault) = 1
status_of_replay Memory = 3
status_of_replay (Write written) = 3
