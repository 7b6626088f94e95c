-- The text of a replay: the heading, the lines of each command and its answer, and the end line.
use Rattle.std.specs.Prelude.{ℕ, ◌≡◌, ◌≤◌, List, [], ◌∷◌, ◌++◌, codes, decimal, length}
use Rattle.std.specs.List.{flat_map, zip}
use Rattle.cn_spec.specs.Step.{shares_after}
use Rattle.cn_spec.specs.declared.limits.TheConstants.{MOST_ARRIVALS}
use Rattle.cn_ledger.specs.declared.reply.EnterFault.TheVariants.{NoSuchEntry, AlreadyIn, EpochFull}
use Rattle.cn_ledger.specs.declared.moved.Moved.{Moved}
use Rattle.cn_ledger.specs.declared.moved.Moved.TheVariants.{On, Out}
use Rattle.cn_ledger.specs.declared.reply.Reply.{Reply}
use Rattle.cn_ledger.specs.declared.reply.Reply.TheVariants.{Entered, EnterRefused, Stepped, StepRefused}
use Rattle.cn_ledger.specs.declared.reply.StepFault.TheVariants.{Stranger, HasName}
use Rattle.cn_ledger.specs.declared.answer.Answer.{Answer}
use Rattle.cn_ledger.specs.declared.answer.Answer.TheVariants.{Replied, Turned, TurnRefused}
use Rattle.cn_ledger.specs.declared.answer.TurnFault.TheVariants.{NotQuiet}
use Rattle.cn_ledger.specs.declared.command.Command.{Command}
use Rattle.cn_ledger.specs.declared.command.Command.TheVariants.{Enter, Step, Turn}
use Rattle.cn_ledger.specs.declared.record.EpochRecord.{EpochRecord}
use Rattle.cn_tables.specs.Network.{Network}
use Rattle.cn_texts.specs.Writing.Outcome.{exit_lines, name_lines}
use Rattle.cn_texts.specs.Writing.Text.{heading, line}

-- where a step of a client led
unfoldable pub moved_line : ℕ → Moved → List ℕ
moved_line client (On balancer number wire) =
    line (codes "pass" ∷ decimal client ∷ codes "balancer" ∷ decimal balancer
    ∷ codes "number" ∷ decimal number ∷ codes "wire" ∷ decimal wire ∷ [])
moved_line client (Out exit visit name) =
    line (codes "leave" ∷ decimal client ∷ codes "exit" ∷ decimal exit
    ∷ codes "visit" ∷ decimal visit ∷ codes "name" ∷ decimal name ∷ [])

-- an enter and its reply; nothing if the reply does not fit, or is want of memory
unfoldable pub enter_line : ℕ → ℕ → Reply → List ℕ
enter_line client entry Entered = line (codes "enter" ∷ decimal client ∷ codes "wire" ∷ decimal entry ∷ [])
enter_line client entry (EnterRefused NoSuchEntry) =
    line (codes "refused" ∷ codes "enter" ∷ decimal client ∷ codes "NoSuchEntry" ∷ [])
enter_line client entry (EnterRefused AlreadyIn) =
    line (codes "refused" ∷ codes "enter" ∷ decimal client ∷ codes "AlreadyIn" ∷ [])
enter_line client entry (EnterRefused EpochFull) =
    line (codes "refused" ∷ codes "enter" ∷ decimal client ∷ codes "EpochFull" ∷ [])
enter_line client entry reply = []

-- a step and its reply; nothing if the reply does not fit
unfoldable pub step_line : ℕ → Reply → List ℕ
step_line client (Stepped moved) = moved_line client moved
step_line client (StepRefused Stranger) = line (codes "refused" ∷ codes "step" ∷ decimal client ∷ codes "Stranger" ∷ [])
step_line client (StepRefused (HasName name)) =
    line (codes "refused" ∷ codes "step" ∷ decimal client ∷ codes "HasName" ∷ decimal name ∷ [])
step_line client reply = []

-- the epoch that a turn ended, and how many clients entered it
unfoldable pub turn_line : ℕ → ℕ → List ℕ
turn_line number clients = line (codes "turn" ∷ codes "epoch" ∷ decimal number ∷ codes "clients" ∷ decimal clients ∷ [])

-- these counts, or if they are left out, the shares of so many clients
abbrev pub counts_or_shares : ℕ → ℕ → List ℕ → List ℕ
counts_or_shares width clients [] = shares_after 0 clients width
counts_or_shares width clients (count ∷ counts) = count ∷ counts

-- the counts that are shown of a record, which may leave them out
abbrev pub shown_counts : ℕ → EpochRecord → List ℕ
shown_counts width r = counts_or_shares width r.clients r.counts.items

-- the epoch that a turn ended, and what it gave out
abbrev pub record_lines : ℕ → EpochRecord → List ℕ
record_lines width r =
    turn_line r.number r.clients
    ++ (exit_lines width (shown_counts width r) ++ name_lines r.clients r.holders.items)

-- a turn that is refused
unfoldable pub not_quiet_line : ℕ → List ℕ
not_quiet_line inside = line (codes "refused" ∷ codes "turn" ∷ codes "NotQuiet" ∷ decimal inside ∷ [])

-- a command and its answer; nothing if the answer does not fit, or is want of memory
unfoldable pub answer_line : ℕ → Command → Answer → List ℕ
answer_line width (Enter client entry) (Replied reply) = enter_line client entry reply
answer_line width (Step client) (Replied reply) = step_line client reply
answer_line width Turn (Turned r) = record_lines width r
answer_line width Turn (TurnRefused (NotQuiet inside)) = not_quiet_line inside
answer_line width command answer = []

-- the commands and their answers, one after the other
abbrev pub answer_lines : ℕ → List Command → List Answer → List ℕ
answer_lines width commands answers =
    flat_map (λ (command, answer). answer_line width command answer) (zip commands answers)

-- a record has a count for each exit, or leaves them out, and a holder for each client
pub record IsShowableRecord (width : ℕ) (r : EpochRecord) : Type 0 where
  pub counts : length (shown_counts width r) ≡ width
  pub few : r.counts.items ≡ [] → r.clients ≤ MOST_ARRIVALS
  pub holders : length r.holders.items ≡ r.clients

-- the record of a turn that is done is so
abbrev pub IsShowable : ℕ → Answer → Type 0
IsShowable width (Turned r) = IsShowableRecord width r
IsShowable width (Replied reply) = Unit {0}
IsShowable width (TurnRefused fault) = Unit {0}

-- how many epochs ended, and how many clients of the open one entered and are inside
unfoldable pub end_line : ℕ → ℕ → ℕ → List ℕ
end_line number entered inside =
    line (codes "end" ∷ codes "epoch" ∷ decimal number ∷ codes "entered" ∷ decimal entered
    ∷ codes "inside" ∷ decimal inside ∷ [])

-- the whole text of a replay
abbrev pub replay_text : Network → List Command → List Answer → ℕ → ℕ → ℕ → List ℕ
replay_text network commands answers number entered inside =
    heading network ++ answer_lines network.table.width commands answers ++ end_line number entered inside
