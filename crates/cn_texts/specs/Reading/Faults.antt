-- The first record of a text with a cause, and its first cause.
use Rattle.std.specs.Prelude.{ℕ, ◌≡◌, ◌<◌, ◌≤◌, ◌⊎◌, ◌==◌, [], List, length, slice_index_or, take, nat_lt, Option, Some, None, if◌then◌else◌}
use Rattle.cn_texts.specs.Reading.Records.{Record}

-- the cause of the record with this number, if it has one: record 0 is asked whether it is the header, even if it is
-- missing, and each later record is judged after those before it
unfoldable pub cause_by : {C : Type 0} → (Record → Option C) → (List Record → Record → Option C) → List Record → ℕ
    → Option C
cause_by header later records at =
    if at == 0 then header (slice_index_or records 0 [])
    else if nat_lt at (length records) then later (take at records) (slice_index_or records at [])
    else None

-- no record before this one has a cause
abbrev pub IsCleanBefore : {C : Type 0} → (List Record → ℕ → Option C) → List Record → ℕ → Type 0
IsCleanBefore cause records end = (at : ℕ) → at < end → cause records at ≡ None

-- no record has a cause
abbrev pub IsClean : {C : Type 0} → (List Record → ℕ → Option C) → List Record → Type 0
IsClean cause records = (at : ℕ) → cause records at ≡ None

-- the first record with a cause, and its first cause; or what is no record's fault, at a record before which none has a
-- cause: that it is the record that was being read, or of a batch gathered, is tested
pub record IsFirstFault {C : Type 0} (cause : List Record → ℕ → Option C) (IsOther : C → Type 0) (records : List Record)
    (at : ℕ) (why : C) : Type 0 where
  pub within : at ≤ length records
  pub clean : IsCleanBefore cause records at
  pub reported : (cause records at ≡ Some why) ⊎ IsOther why
