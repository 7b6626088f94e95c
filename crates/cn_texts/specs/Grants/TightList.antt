-- Which records are a tight grant list, and what is wrong with those that are none.
use Rattle.std.specs.Prelude.{ℕ, ◌≡◌, ◌<◌, ◌≤◌, ◌⊎◌, ◌∷◌, [], Bool, false, true, List, drop, length, map, Option, Some, None, MatchOption, codes, if◌then◌else◌, ⊤}
use Rattle.std.specs.Cmp.Lexicographic.{pointwise}
use Rattle.std.specs.Str.{bytes_eq}
use Rattle.cn_spec.specs.Step.{IsEachBelow}
use Rattle.cn_spec.specs.Sums.{times}
use Rattle.cn_texts.specs.Reading.Faults.{IsClean, IsFirstFault, cause_by}
use Rattle.cn_texts.specs.Grants.Granted.{grant_spelled, grants_spelled, has_name, of_epoch, spelled_cause, spelled_form}
use Rattle.csv.specs.Reading.{has_failed, reader_source}
use Rattle.csv.specs.declared.reader.Reader.{Reader}
use Rattle.cn_texts.specs.Reading.Records.{Record, fault_by}
use Rattle.cn_texts.specs.declared.grants.record.Granted.{Granted}
use Rattle.cn_texts.specs.declared.grants.record.GrantCause.{GrantCause}
use Rattle.cn_texts.specs.declared.grants.record.GrantCause.TheVariants as cause
use Rattle.cn_texts.specs.declared.grants.record.Flaw.{Flaw}
use Rattle.cn_texts.specs.declared.grants.record.Flaw.TheVariants.{Read, Form, DuplicateClient, DuplicateName, Gap, Memory}
use Rattle.cn_texts.specs.declared.reading.records.RecordFault.{RecordFault}
use Rattle.cn_texts.specs.declared.reading.records.RecordFault.TheVariants as no_record

-- the cause for which no record came
abbrev pub grant_cause_of_fault : RecordFault → GrantCause
grant_cause_of_fault no_record.Read = cause.Read
grant_cause_of_fault no_record.Memory = cause.Memory

-- the name that a flaw prints
abbrev pub flaw_name : Flaw → List ℕ
flaw_name (Read at) = codes "Read"
flaw_name (Form at) = codes "Form"
flaw_name (DuplicateClient at) = codes "DuplicateClient"
flaw_name (DuplicateName at) = codes "DuplicateName"
flaw_name (Gap epoch name) = codes "Gap"
flaw_name Memory = codes "Memory"

-- the flaw of a record with this cause
abbrev pub flaw_of : ℕ → GrantCause → Flaw
flaw_of at cause.Read = Read at
flaw_of at cause.Form = Form at
flaw_of at cause.DuplicateClient = DuplicateClient at
flaw_of at cause.DuplicateName = DuplicateName at
flaw_of at cause.Memory = Memory

-- a client or a name stands at an earlier record
abbrev pub IsRepeatFlaw : Flaw → Type 0
IsRepeatFlaw (DuplicateClient at) = ⊤
IsRepeatFlaw (DuplicateName at) = ⊤
IsRepeatFlaw flaw = ⊥

-- the flaw says why this reader has stopped, at some record, if it has, or that a client or a name stands at an earlier
-- record; and a failed read is said only if the reader has stopped
pub record IsFlawTold {R : Type 0} (failed : R → Bool) (reader : Reader R) (flaw : Flaw) : Type 0 where
  pub at : ℕ
  pub stopped : has_failed reader ≡ true
      → (flaw ≡ flaw_of at (grant_cause_of_fault (fault_by (failed (reader_source reader))))) ⊎ IsRepeatFlaw flaw
  pub read : (n : ℕ) → flaw ≡ Read n → has_failed reader ≡ true

-- the fields of the header of a grant list
abbrev pub is_grants_header : Record → Bool
is_grants_header fields = pointwise bytes_eq fields (codes "epoch" ∷ codes "client" ∷ codes "name" ∷ [])

-- the cause of record 0
abbrev pub header_cause : Record → Option GrantCause
header_cause fields = if is_grants_header fields then None else Some cause.Form

-- what is wrong with the form of a record after those before it, the header first, in a list of so many grants at most
abbrev pub record_form : ℕ → List Record → Record → Option GrantCause
record_form most before fields = spelled_form most (grants_spelled (drop 1 before)) (grant_spelled fields)

-- the first cause of a record after those before it
abbrev pub record_cause : ℕ → List Record → Record → Option GrantCause
record_cause most before fields = spelled_cause most (grants_spelled (drop 1 before)) (grant_spelled fields)

-- the same of the record with this number
abbrev pub grants_form : ℕ → List Record → ℕ → Option GrantCause
grants_form most = cause_by header_cause (record_form most)

-- the first cause of the record with this number, if it has one
abbrev pub grants_cause : ℕ → List Record → ℕ → Option GrantCause
grants_cause most = cause_by header_cause (record_cause most)

-- no record's fault: the reader failed, or a growth was refused
abbrev pub IsOfReading : GrantCause → Type 0
IsOfReading why = (why ≡ cause.Read) ⊎ (why ≡ cause.Memory)

-- the epoch lacks this name below its number of grants
abbrev pub Lacks : List Granted → ℕ → ℕ → Type 0
Lacks grants epoch name = (name < length (of_epoch epoch grants)) × (has_name name (of_epoch epoch grants) ≡ false)

-- the least epoch that lacks a name, and the least name that it lacks
pub record IsGap (grants : List Granted) (epoch name : ℕ) : Type 0 where
  pub lacks : Lacks grants epoch name
  pub first : (e n : ℕ) → Lacks grants e n → epoch ≤ e
  pub least : (n : ℕ) → Lacks grants epoch n → name ≤ n

-- the flaw of these grants at the end of the list
abbrev pub IsEndFlaw : List Granted → Flaw → Type 0
IsEndFlaw grants (Gap epoch name) = IsGap grants epoch name
IsEndFlaw grants Memory = ⊤
IsEndFlaw grants flaw = ⊥

-- the record has this cause, and it is the first with one
abbrev pub IsFirstWithCause : ℕ → List Record → ℕ → GrantCause → Type 0
IsFirstWithCause most records at why = IsFirstFault (grants_cause most) IsOfReading records at why

-- the first record with a cause, and its first cause; or the first gap if no record has one
abbrev pub IsFlaw : ℕ → List Record → Flaw → Type 0
IsFlaw most records (Read at) = IsFirstWithCause most records at cause.Read
IsFlaw most records (Form at) = IsFirstWithCause most records at cause.Form
IsFlaw most records (DuplicateClient at) = IsFirstWithCause most records at cause.DuplicateClient
IsFlaw most records (DuplicateName at) = IsFirstWithCause most records at cause.DuplicateName
IsFlaw most records (Gap epoch name) =
    IsClean (grants_cause most) records × IsGap (grants_spelled (drop 1 records)) epoch name
IsFlaw most records Memory = ⊤

-- the flaw is no fault of the records
abbrev pub IsOutside : Flaw → Type 0
IsOutside (Read at) = ⊤
IsOutside Memory = ⊤
IsOutside flaw = ⊥

-- these grants of one epoch pair distinct clients with the names below their number, each once
pub record AreTightGrants (grants : List Granted) : Type 0 where
  pub clients : (client : ℕ) → times client (map (λ g. g.client) grants) ≤ 1
  pub names : IsEachBelow (length grants) (map (λ g. g.name) grants)

-- the form holds, of a list of so many grants at most, and each epoch is tight
pub record IsTightList (most : ℕ) (records : List Record) : Type 0 where
  pub form : IsClean (grants_form most) records
  pub tight : (epoch : ℕ) → AreTightGrants (of_epoch epoch (grants_spelled (drop 1 records)))

-- the least number below the count that is not among these
abbrev pub IsLeastMissing : (ℕ → Bool) → ℕ → Option ℕ → Type 0
IsLeastMissing has count missing = MatchOption missing ((n : ℕ) → n < count → has n ≡ true)
    (λ name. (name < count) × (has name ≡ false) × ((n : ℕ) → n < name → has n ≡ true))
