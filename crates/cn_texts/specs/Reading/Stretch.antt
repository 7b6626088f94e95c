-- A stretch of a batch: arrivals that are read together, before they are gathered.
use Rattle.std.specs.Prelude.{ℕ, ◌≡◌, ◌≢◌, ◌<◌, ◌+◌, ◌⊎◌, ◌++◌, ◌∷◌, [], Bool, List, Option, Result, MatchResult, IfErr, OnOk, Ok, Err, Some, drop, length, map}
use Rattle.std.specs.Bool.{MatchBool}
use Rattle.cn_texts.specs.Reading.Arrival.{arrival_in, arrivals_in}
use Rattle.cn_texts.specs.Reading.Batch.{IsBatchFault, IsOfReading, batch_cause}
use Rattle.cn_texts.specs.Reading.Faults.{IsCleanBefore}
use Rattle.cn_texts.specs.Reading.Gathered.{IsGathered, StaysServable}
use Rattle.cn_texts.specs.Reading.Heading.{heading_in, heading_of}
use Rattle.cn_texts.specs.Reading.Bounds.{AreBounds}
use Rattle.cn_texts.specs.Reading.Records.{HasRead, IsPlain, Record, records_of}
use Rattle.cn_texts.specs.declared.reading.bounds.Bounds.{Bounds}
use Rattle.cn_texts.specs.declared.reading.batch.arrival.Arrival.{Arrival}
use Rattle.cn_texts.specs.declared.reading.batch.arrivals.ArrivalReader.{ArrivalReader}
use Rattle.cn_texts.specs.declared.reading.batch.gathering.Gathering.{Gathering}
use Rattle.cn_texts.specs.declared.reading.batch.arrival.Heading.{Heading}
use Rattle.cn_texts.specs.declared.reading.batch_fault.BatchCause.{BatchCause}
use Rattle.cn_texts.specs.declared.reading.batch_fault.BatchCause.TheVariants.{Read}
use Rattle.cn_texts.specs.declared.reading.batch_fault.BatchFault.{BatchFault}
use Rattle.csv.specs.declared.reader.Reader.{Reader}

-- arrivals can be read
pub record IsOpen {R : Type 0} (source : ArrivalReader R) : Type 0 where
  pub plain : IsPlain source.records.value
  pub within : AreBounds source.bounds

-- of the text the header was read, and nothing after it
pub record HasHeader {R : Type 0} (remaining : R → Option (List ℕ)) (source : ArrivalReader R)
    (text : List ℕ) : Type 0 where
  pub fields : Record
  pub read : HasRead remaining source.records.value text (fields ∷ [])
  pub heads : heading_of fields ≡ Some source.heading

-- what is read later is spelled under the same header
pub record HasSameHeader {R : Type 0} (old new : ArrivalReader R) : Type 0 where
  pub heading : new.heading ≡ old.heading
  pub bounds : new.bounds ≡ old.bounds

-- the records so far: a header, and a record for each arrival; none has a cause
pub record AreRead (heading : Heading) (bounds : Bounds) (records : List Record)
    (arrivals : List Arrival) : Type 0 where
  pub headed : heading_in records ≡ heading
  pub some : 0 < length records
  pub clean : IsCleanBefore (batch_cause bounds) records (length records)
  pub spells : arrivals_in heading bounds (drop 1 records) ≡ arrivals
  pub counted : length arrivals + 1 ≡ length records

-- these records spell these arrivals, one each
abbrev pub AreSpelled : Heading → Bounds → List Record → List Arrival → Type 0
AreSpelled heading bounds records arrivals = map (arrival_in heading bounds) records ≡ map Ok arrivals

-- why a stretch ends after these records: others may come, or none does, or the next spells no arrival or could not be
-- read
abbrev pub EndsAfter : {R : Type 0} → (R → Option (List ℕ)) → Reader R → Heading → Bounds → List ℕ → List Record
    → Result Bool BatchCause → Type 0
EndsAfter remaining reader heading bounds text records end =
    MatchResult end (λ others. MatchBool others (HasRead remaining reader text records) (records_of text ≡ records))
    (λ cause. ((fields : Record) × HasRead remaining reader text (records ++ fields ∷ [])
    × (arrival_in heading bounds fields ≡ Err cause)) ⊎ IsOfReading cause)

-- after these records of the text come those that spell these arrivals
pub record HasStretch {R : Type 0} (remaining : R → Option (List ℕ)) (reader : Reader R) (heading : Heading)
    (bounds : Bounds) (text : List ℕ) (before : List Record) (arrivals : List Arrival)
    (end : Result Bool BatchCause) : Type 0 where
  pub records : List Record
  pub spelled : AreSpelled heading bounds records arrivals
  pub first : (later : List Record) × (records_of text ≡ (before ++ records) ++ later)
  pub ends : EndsAfter remaining reader heading bounds text (before ++ records) end

-- what the reading of a stretch does
pub record ReadsStretch {R : Type 0} (remaining : R → Option (List ℕ)) (old new : ArrivalReader R)
    (arrivals : List Arrival) (end : Result Bool BatchCause) : Type 0 where
  pub plain : OnOk end (IsPlain new.records.value)
  pub same : HasSameHeader old new
  pub reads : (text : List ℕ) (before : List Record) → HasRead remaining old.records.value text before
      → HasStretch remaining new.records.value old.heading old.bounds text before arrivals end

-- what becomes of arrivals that are gathered: either all are accepted, or this is the fault of any batch that goes on
-- with the records that spell them
pub record Gathers (bounds : Bounds) (arrivals : List Arrival) (old new : Gathering)
    (result : Result (Unit {0}) BatchFault) : Type 0 where
  pub keeps : OnOk result (StaysServable bounds new)
  pub next : OnOk result (new.next ≡ old.next + length arrivals)
  -- a fault is reported at the record that was being gathered
  pub at : IfErr result (λ fault. fault.at ≡ new.next)
  pub not_read : IfErr result (λ fault. fault.cause ≢ Read)
  pub answer : (heading : Heading) (before records later : List Record) (came : List Arrival)
      → AreRead heading bounds before came → IsGathered old came → AreSpelled heading bounds records arrivals
      → MatchResult result
      (λ done. AreRead heading bounds (before ++ records) (came ++ arrivals) × IsGathered new (came ++ arrivals))
      (IsBatchFault bounds ((before ++ records) ++ later))
