-- The records of a batch that were taken so far.
use Rattle.cn_texts.proofs.Common.{◌≡◌, List, ◌∷◌, [], ◌++◌, Some, None, drop, refl, arith, ap, ◌∙◌, length-append, Ok, filter_map-append, Record, result_ok, cons_option, arrival_cause, arrival_in, arrivals_in, IsBatch, AreEpochsOf, cause_of_heading, header_cause, record_cause, heading_of, heading_or, Bounds, AreRead, Arrival, BatchEpoch, Heading}
use Rattle.cn_texts.specs.Reading.Arrival.{spelled_cause}
use Rattle.cn_texts.proofs.ReadingLemmas.FirstFaults.{AreClean, clean-all, clean-header, clean-more}

-- such records as lemmas on first faults take them
pub clean-of : {heading : Heading} {bounds : Bounds} {records : List Record} {arrivals : List Arrival}
    → AreRead heading bounds records arrivals → AreClean header_cause (record_cause bounds) records
clean-of t = record { some = t.some; clean = t.clean }

pub taken-header : {heading : Heading} {bounds : Bounds} (fields : Record) → heading_of fields ≡ Some heading
    → AreRead heading bounds (fields ∷ []) []
taken-header {bounds = bounds} fields e = record {
  headed = ap heading_or e;
  some = omega arith;
  clean = (clean-header {header = header_cause} {later = record_cause bounds} fields (ap cause_of_heading e)).clean;
  spells = refl;
  counted = refl;
}

-- what a record spells after those before it, by the arrivals before it
pub spelled-same : {heading : Heading} {bounds : Bounds} {records : List Record} {arrivals : List Arrival}
    (fields : Record)
    → AreRead heading bounds records arrivals
    → record_cause bounds records fields ≡ spelled_cause bounds arrivals (arrival_in heading bounds fields)
spelled-same {heading = heading} {bounds = bounds} {records = records} fields t =
    ap (λ (h : Heading). spelled_cause bounds (arrivals_in h bounds (drop 1 records)) (arrival_in h bounds fields)) t.headed
    ∙ (λ i. spelled_cause bounds (t.spells i) (arrival_in heading bounds fields))

pub taken-next : {heading : Heading} {bounds : Bounds} (records : List Record) (arrivals : List Arrival)
    (fields : Record)
    (arrival : Arrival) → AreRead heading bounds records arrivals
    → arrival_in heading bounds fields ≡ Ok arrival → arrival_cause bounds arrivals arrival ≡ None
    → AreRead heading bounds (records ++ fields ∷ []) (arrivals ++ arrival ∷ [])
taken-next [] arrivals fields arrival t is none = absurd (omega (arith, t.some))
taken-next {heading = heading} {bounds = bounds} (r ∷ records) arrivals fields arrival t is none = record {
  headed = t.headed;
  some = omega (arith, length-append (r ∷ records) (fields ∷ []));
  clean = (clean-more fields (clean-of t) (spelled-same fields t ∙ (λ i. spelled_cause bounds arrivals (is i))
      ∙ none)).clean;
  spells = filter_map-append (λ (given : Record). result_ok (arrival_in heading bounds given)) records (fields ∷ [])
      ∙ (λ i. t.spells i ++ cons_option (result_ok (is i)) []);
  counted = omega (arith, t.counted, length-append arrivals (arrival ∷ []), length-append (r ∷ records) (fields ∷ []));
}

pub taken_all : {heading : Heading} {bounds : Bounds} (records : List Record) {arrivals : List Arrival}
    {epochs : List BatchEpoch}
    → AreRead heading bounds records arrivals → AreEpochsOf epochs arrivals → IsBatch bounds records epochs
taken_all {bounds = bounds} records t are =
    record {
      clean = clean-all (clean-of t);
      holds = rw ((λ i. arrivals_in (t.headed i) bounds (drop 1 records)) ∙ t.spells) are;
    }
