-- What records and answers say, and that a history and commands leave no choice of them.
use Rattle.std.specs.Prelude.{All, ◌≡◌, ◌≢◌, ℕ, ◌+◌, ◌<◌, ◌≤◌, List, Option, length, slice_index}
use Rattle.std.specs.List.{AllZip}
use Rattle.cn_spec.specs.Step.{share}
use Rattle.cn_spec.specs.declared.limits.TheConstants.{MOST_CARRIED}
use Rattle.cn_tables.specs.Table.{Table}
use Rattle.cn_core.specs.declared.event.Event.{Event}
use Rattle.cn_core.specs.History.{Carried, carried_by}
use Rattle.cn_ledger.specs.declared.answer.Answer.{Answer}
use Rattle.cn_ledger.specs.declared.command.Command.{Command}
use Rattle.cn_ledger.specs.declared.record.EpochRecord.{EpochRecord}
use Rattle.cn_ledger.specs.Answers.{HadMemory, IsSameAnswer, IsSameRecord}
use Rattle.cn_epoch.specs.History.{IsRecordOf, MayAnswerCommands, kept_by, earlier_in}

-- what a record says is tight after so many clients: each exit has let out what its share has grown by, and each name
-- below the number of clients has a holder of its own
pub record IsTightRecord (width base : ℕ) (r : EpochRecord) : Type 0 where
  pub exits : length r.counts.items ≡ width
  pub counts : (i : ℕ) → i < width
      → slice_index r.counts.items i + share base width i ≡ share (base + r.clients) width i
  pub names : length r.holders.items ≡ r.clients
  pub distinct : (m n : ℕ) → m < n → n < r.clients
      → slice_index r.holders.items m ≢ slice_index r.holders.items n

-- the records of a history after what is carried have the same contents
abbrev pub HasOneRecord : Table → ℕ → List Event → Carried → Type 0
HasOneRecord table turns history carried =
    (r s : EpochRecord) → IsRecordOf table turns history carried r → IsRecordOf table turns history carried s
    → IsSameRecord r s

-- want of memory aside, the answers that these commands may have are the same: the epochs that end by them, and
-- the earlier ones, have no more clients than may be carried
abbrev pub HaveOneAnswer : Table → ℕ → List Event → Option (List (List Event)) → List Command → Type 0
HaveOneAnswer table turns history kept commands =
    (answers others : List Answer) → All HadMemory answers → All HadMemory others
    → MayAnswerCommands table turns history kept commands answers
    → MayAnswerCommands table turns history kept commands others
    → (carried_by table (earlier_in (kept_by kept history commands answers))).enters ≤ MOST_CARRIED
    → AllZip IsSameAnswer answers others
