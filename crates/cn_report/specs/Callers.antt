-- For callers in Rattle: an epoch of a grant list with its counts, what a check with counts answers, and records that
-- are whole.
use Rattle.std.specs.Prelude.{ℕ, ◌≡◌, List, length, map, Result, MatchResult}
use Rattle.cn_spec.specs.declared.limits.TheConstants.{MOST_RECORDS}
use Rattle.cn_ledger.specs.declared.answer.Answer.{Answer}
use Rattle.cn_ledger.specs.declared.answer.Answer.TheVariants.{Replied, Turned, TurnRefused}
use Rattle.cn_ledger.specs.declared.record.EpochRecord.{EpochRecord}
use Rattle.cn_texts.specs.Grants.TightList.{IsFlaw, IsTightList}
use Rattle.cn_texts.specs.Grants.Printed.{printed_epochs}
use Rattle.cn_texts.specs.Reading.Records.{Record}
use Rattle.cn_report.specs.declared.checking.Tight.{Tight}
use Rattle.cn_report.specs.declared.checking.TightEpoch.{TightEpoch}
use Rattle.cn_texts.specs.declared.grants.record.Flaw.{Flaw}

-- an epoch, as a tight list has it
abbrev pub plain_tight : TightEpoch → ℕ × ℕ × List ℕ
plain_tight epoch = (epoch.number, epoch.clients, epoch.counts.items)

-- these are the epochs of the records
abbrev pub IsPrinted : ℕ → List Record → List TightEpoch → Type 0
IsPrinted width records epochs = map plain_tight epochs ≡ printed_epochs width records

-- what a check of these records answers: their epochs if they are a tight list, or their flaw
abbrev pub AnswersTight : ℕ → List Record → Result Tight Flaw → Type 0
AnswersTight width records result =
    MatchResult result (λ tight. IsTightList MOST_RECORDS records × IsPrinted width records tight.epochs.items)
    (IsFlaw MOST_RECORDS records)

-- a record has a holder for each client
abbrev pub HasHolders : EpochRecord → Type 0
HasHolders r = length r.holders.items ≡ r.clients

-- a record has a count for each exit, and a holder for each client
abbrev pub IsWholeRecord : ℕ → EpochRecord → Type 0
IsWholeRecord width r = (length r.counts.items ≡ width) × (length r.holders.items ≡ r.clients)

-- the record of a turn that is done is whole
abbrev pub IsWhole : ℕ → Answer → Type 0
IsWhole width (Turned r) = IsWholeRecord width r
IsWhole width (Replied reply) = Unit {0}
IsWhole width (TurnRefused fault) = Unit {0}
