-- What replies, answers and records say.
use Rattle.std.specs.Prelude.{◌≡◌, ◌≢◌, Result, Ok, Err}
use Rattle.cn_ledger.specs.declared.moved.Moved.{Moved}
use Rattle.cn_ledger.specs.declared.reply.EnterFault.{EnterFault}
use Rattle.cn_ledger.specs.declared.reply.EnterFault.TheVariants.{Memory as EnterMemory}
use Rattle.cn_ledger.specs.declared.reply.StepFault.{StepFault}
use Rattle.cn_ledger.specs.declared.reply.Reply.{Reply}
use Rattle.cn_ledger.specs.declared.reply.Reply.TheVariants.{Entered, EnterRefused, Stepped, StepRefused}
use Rattle.cn_ledger.specs.declared.answer.Answer.{Answer}
use Rattle.cn_ledger.specs.declared.answer.Answer.TheVariants.{Replied, Turned, TurnRefused}
use Rattle.cn_ledger.specs.declared.answer.TurnFault.{TurnFault}
use Rattle.cn_ledger.specs.declared.answer.TurnFault.TheVariants.{Memory}
use Rattle.cn_ledger.specs.declared.record.EpochRecord.{EpochRecord}

-- the reply of an enter
abbrev pub entered_reply : {U : Type 0} → Result U EnterFault → Reply
entered_reply (Ok done) = Entered
entered_reply (Err fault) = EnterRefused fault

-- the reply of a step
abbrev pub stepped_reply : Result Moved StepFault → Reply
stepped_reply (Ok moved) = Stepped moved
stepped_reply (Err fault) = StepRefused fault

-- the answer of a turn
abbrev pub turned_answer : Result EpochRecord TurnFault → Answer
turned_answer (Ok r) = Turned r
turned_answer (Err fault) = TurnRefused fault

-- two records have the same contents
pub record IsSameRecord (r s : EpochRecord) : Type 0 where
  pub number : r.number ≡ s.number
  pub clients : r.clients ≡ s.clients
  pub counts : r.counts.items ≡ s.counts.items
  pub holders : r.holders.items ≡ s.holders.items

-- two answers have the same contents
abbrev pub IsSameAnswer : Answer → Answer → Type 0
IsSameAnswer (Replied reply) (Replied other) = reply ≡ other
IsSameAnswer (Turned r) (Turned s) = IsSameRecord r s
IsSameAnswer (TurnRefused fault) (TurnRefused other) = fault ≡ other
IsSameAnswer answer other = ⊥

-- an answer that is not want of memory
abbrev pub HadMemory : Answer → Type 0
HadMemory (Replied reply) = reply ≢ EnterRefused EnterMemory
HadMemory (Turned r) = Unit {0}
HadMemory (TurnRefused fault) = fault ≢ Memory
