-- The records that `csv` gives for a text, and how far a reader has come.
use Rattle.std.specs.Prelude.{ℕ, ◌≡◌, Bool, List, Option, Some, false, if◌then◌else◌, true}
use Rattle.csv.specs.Reading.{Reached, Ready, default_config, has_failed, is_flexible, reader_config, reader_source, reader_state, reader_trim, records, source_of, strip_bom}
use Rattle.csv.specs.declared.parser.State.TheVariants as st
use Rattle.csv.specs.declared.reader.Reader.{Reader}
use Rattle.csv.specs.declared.reader.Trim.TheVariants as trim
use Rattle.cn_texts.specs.declared.reading.records.RecordFault.{RecordFault}
use Rattle.cn_texts.specs.declared.reading.records.RecordFault.TheVariants.{Memory, Read}

-- a record is its fields, and a field is its bytes
abbrev pub Record : Type 0
Record = List (List ℕ)

-- the records of a text, its byte order mark aside
abbrev pub records_of : List ℕ → List Record
records_of text = records default_config (strip_bom text)

-- the reader gives records of any length as they are, and takes none of them for a header
pub record IsPlain {R : Type 0} (reader : Reader R) : Type 0 where
  pub ready : Ready reader
  pub untrimmed : reader_trim reader ≡ trim.None
  pub flexible : is_flexible reader ≡ true
  pub going : has_failed reader ≡ false

-- the reader has read these records of the text
pub record HasRead {R : Type 0} (remaining : R → Option (List ℕ)) (reader : Reader R) (text : List ℕ)
    (given : List Record) : Type 0 where
  pub config : reader_config reader ≡ default_config
  pub left : (bytes : List ℕ) × (source_of remaining reader ≡ Some bytes)
      × Reached default_config st.StartRecord (strip_bom text) given (reader_state reader) bytes

-- why no record comes of a reader, by whether its last read failed
abbrev pub fault_by : Bool → RecordFault
fault_by failed = if failed then Read else Memory

-- no record comes of this reader any more, and this is why
pub record HasStopped {R : Type 0} (failed : R → Bool) (reader : Reader R) (fault : RecordFault) : Type 0 where
  pub stopped : has_failed reader ≡ true
  pub why : fault ≡ fault_by (failed (reader_source reader))

-- the cause says why this reader has stopped, if it has, and is that of a failed read for nothing else
pub record IsTold {R Cause : Type 0} (failed : R → Bool) (cause_of : RecordFault → Cause) (reader : Reader R)
    (cause : Cause) : Type 0 where
  pub stopped : has_failed reader ≡ true → cause ≡ cause_of (fault_by (failed (reader_source reader)))
  pub read : cause ≡ cause_of Read → has_failed reader ≡ true
