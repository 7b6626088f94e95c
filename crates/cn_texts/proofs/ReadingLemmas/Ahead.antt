-- A reader that has read a stretch ahead of what was gathered.
use Rattle.cn_texts.proofs.Common.{◌≡◌, subst, ℕ, List, [], ◌∷◌, ◌++◌, Bool, Option, length, ap, arith, inl, inr, true, false, ◌∙◌, Result, Ok, Err, HasRead, Record, records_of, Reader, IsBatchFault, IsGathered, Bounds, AreSpelled, AreRead, EndsAfter, Gathers, HasHeader, HasSameHeader, HasStretch, ReadsStretch, Arrival, Gathering, Heading, BatchCause}
use Rattle.cn_texts.specs.Reading.Arrival.{spelled_cause}
use Rattle.cn_texts.specs.declared.reading.batch.arrivals.ArrivalReader.{ArrivalReader}
use Rattle.cn_texts.specs.declared.reading.batch_fault.BatchFault.{BatchFault}
use Rattle.cn_texts.proofs.ReadingLemmas.BatchRecords.{clean-of, spelled-same, taken-header}
use Rattle.cn_texts.proofs.ReadingLemmas.FirstFaults.{stop-other, stop-in}
use Rattle.cn_texts.proofs.ReadingLemmas.RecordLists.{read-first}

-- a stretch that ends so after records that were read
pub stretch-read : {R : Type 0} {remaining : R → Option (List ℕ)} {old new : Reader R} {heading : Heading}
    {bounds : Bounds}
    {text : List ℕ} {before : List Record} (records : List Record) {arrivals : List Arrival}
    {end : Result Bool BatchCause}
    → AreSpelled heading bounds records arrivals → HasRead remaining old text (before ++ records)
    → EndsAfter remaining new heading bounds text (before ++ records) end
    → HasStretch remaining new heading bounds text before arrivals end
stretch-read records spelled read ends =
    record { records = records; spelled = spelled; first = read-first read; ends = ends }

-- what is read later still has the same header
pub same-header : {R : Type 0} {old mid new : ArrivalReader R} → HasSameHeader old mid → HasSameHeader mid new
    → HasSameHeader old new
same-header first second = record { heading = second.heading ∙ first.heading; bounds = second.bounds ∙ first.bounds }

-- the records that were read have no cause, and their arrivals were gathered
pub record HasTaken {R : Type 0} (remaining : R → Option (List ℕ)) (heading : Heading) (bounds : Bounds) (text : List ℕ)
    (reader : Reader R) (g : Gathering) : Type 0 where
  pub records : List Record
  pub came : List Arrival
  pub read : HasRead remaining reader text records
  pub taken : AreRead heading bounds records came
  pub gathered : IsGathered g came

module _ {R : Type 0} {remaining : R → Option (List ℕ)} {source : ArrivalReader R} {text : List ℕ} {g : Gathering} where
  -- at first only the header was read
  pub after-header : HasHeader remaining source text → IsGathered g []
      → HasTaken remaining source.heading source.bounds text source.records.value g
  after-header header none = record {
    records = header.fields ∷ [];
    came = [];
    read = header.read;
    taken = taken-header header.fields header.heads;
    gathered = none;
  }

  module _ {old new : ArrivalReader R} {arrivals : List Arrival} {end : Result Bool BatchCause}
      (same : HasSameHeader source old)
      (t : HasTaken remaining source.heading source.bounds text old.records.value g)
      (reads : ReadsStretch remaining old new arrivals end) where
    -- the stretch that was read after them
    stretch : HasStretch remaining new.records.value source.heading source.bounds text t.records arrivals end
    stretch = rw (same.heading, same.bounds) at (reads.reads text t.records t.read)

    ends : {x : Result Bool BatchCause} → end ≡ x
        → EndsAfter remaining new.records.value source.heading source.bounds text (t.records ++ stretch.records) x
    ends e = subst (EndsAfter remaining new.records.value source.heading source.bounds text
        (t.records ++ stretch.records)) e stretch.ends

    module _ {h : Gathering} (gathers : Gathers source.bounds arrivals g h (Ok tt)) where
      both : AreRead source.heading source.bounds (t.records ++ stretch.records) (t.came ++ arrivals)
          × IsGathered h (t.came ++ arrivals)
      both = gathers.answer source.heading t.records stretch.records [] t.came t.taken t.gathered stretch.spelled

      -- the stretch was gathered, and the reader goes on
      pub goes-on : end ≡ Ok true → HasTaken remaining source.heading source.bounds text new.records.value h
      goes-on e = record {
        records = t.records ++ stretch.records;
        came = t.came ++ arrivals;
        read = ends e;
        taken = both.0;
        gathered = both.1;
      }

      -- or there are no other records
      pub at-end : end ≡ Ok false → (came : List Arrival) × AreRead source.heading source.bounds (records_of text) came
          × IsGathered h came
      at-end e = (t.came ++ arrivals, rw (ends e) both.0, both.1)

      -- or the next has a cause
      pub next-fault : (cause : BatchCause) → end ≡ Err cause
          → IsBatchFault source.bounds (records_of text) (record { at = h.next; cause = cause })
      next-fault cause e =
          let many : length (t.records ++ stretch.records) ≡ h.next = omega (arith, both.0.counted, both.1.next) in
          rw (← many) (elim (ends e) [
            | inl (fields, read, is) ↦
                stop-in (clean-of both.0) fields (read-first read)
                (spelled-same fields both.0 ∙ ap (spelled_cause source.bounds (t.came ++ arrivals)) is)
            | inr w ↦ stop-other (clean-of both.0) stretch.first w
          ])

    -- a record of the stretch has a cause
    pub stretch-fault : {h : Gathering} (fault : BatchFault) → Gathers source.bounds arrivals g h (Err fault)
        → IsBatchFault source.bounds (records_of text) fault
    stretch-fault fault gathers =
        let (later, first) = stretch.first in
        rw first (gathers.answer source.heading t.records stretch.records later t.came t.taken t.gathered stretch.spelled)
