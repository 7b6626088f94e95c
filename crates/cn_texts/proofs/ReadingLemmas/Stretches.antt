-- Arrivals that were read together, and how far they were gathered.
use Rattle.cn_texts.proofs.Common.{◌≡◌, ◌<◌, ◌≤◌, ◌+◌, ◌⊎◌, ℕ, List, [], ◌∷◌, ◌++◌, Some, None, drop, get_or, length, take, arith, sym, ap, inl, inr, ◌∙◌, append_assoc, append-nil, Ok, take_all, take_more, Record, arrival_cause, arrival_in, IsBatchFault, IsGathered, Bounds, AreSpelled, AreRead, Arrival, BatchCause, Memory, Gathering, Heading}
use Rattle.cn_texts.specs.Reading.Arrival.{spelled_cause}
use Rattle.cn_texts.proofs.ReadingLemmas.BatchRecords.{clean-of, spelled-same, taken-next}
use Rattle.cn_texts.proofs.ReadingLemmas.FirstFaults.{stop-other, stop-in}
use Rattle.cn_texts.proofs.ReadingLemmas.RecordLists.{parted, parted-at, same-length, spelled-at}

-- so many of the arrivals were gathered after those that came before
pub record GatheredTo (heading : Heading) (bounds : Bounds) (before records : List Record) (came arrivals : List Arrival) (g : Gathering)
    (i : ℕ) : Type 0 where
  pub taken : AreRead heading bounds (before ++ take i records) (came ++ take i arrivals)
  pub gathered : IsGathered g (came ++ take i arrivals)

module _ {heading : Heading} {bounds : Bounds} {before records : List Record} {came arrivals : List Arrival} where
  -- where nothing is gathered yet
  pub none-gathered-of : {g : Gathering} → AreRead heading bounds before came → IsGathered g came
      → GatheredTo heading bounds before records came arrivals g 0
  none-gathered-of taken gathered =
      record { taken = rw (append-nil before, append-nil came) taken; gathered = rw (append-nil came) gathered }

  -- all were gathered
  pub all-gathered : {g : Gathering} {i : ℕ} → AreSpelled heading bounds records arrivals → length arrivals ≤ i
      → GatheredTo heading bounds before records came arrivals g i
      → AreRead heading bounds (before ++ records) (came ++ arrivals) × IsGathered g (came ++ arrivals)
  all-gathered {i = i} spelled all to =
      let size = same-length (arrival_in heading bounds) Ok records arrivals spelled in
      let a : take i arrivals ≡ arrivals = take_all i arrivals all in
      (rw (take_all i records (omega (arith, all, size)), a) at to.taken, rw a at to.gathered)

  module _ (i : ℕ) {g : Gathering} (to : GatheredTo heading bounds before records came arrivals g i)
      (within : i < length arrivals)
      (spelled : AreSpelled heading bounds records arrivals) where
    inside : i < length records
    inside = omega (arith, within, same-length (arrival_in heading bounds) Ok records arrivals spelled)

    spells-it : (d : Arrival) → arrival_in heading bounds (get_or records i []) ≡ Ok (get_or arrivals i d)
    spells-it d = spelled-at (arrival_in heading bounds) Ok records arrivals spelled i d within

    -- one more was
    pub gathered-next : {h : Gathering} (d : Arrival)
        → arrival_cause bounds (came ++ take i arrivals) (get_or arrivals i d) ≡ None
        → IsGathered h ((came ++ take i arrivals) ++ get_or arrivals i d ∷ [])
        → GatheredTo heading bounds before records came arrivals h (i + 1)
    gathered-next d none more =
        let next : (came ++ take i arrivals) ++ get_or arrivals i d ∷ [] ≡ came ++ take (i + 1) arrivals =
        append_assoc came (take i arrivals) (get_or arrivals i d ∷ [])
        ∙ ap (λ (l : List Arrival). came ++ l) (sym (take_more arrivals i d within)) in
        let rows = sym (take_more records i [] inside) in
        let taken = taken-next (before ++ take i records) (came ++ take i arrivals) (get_or records i [])
        (get_or arrivals i d) to.taken
        (spells-it d) none in
        record {
          taken = rw (append_assoc before (take i records) (get_or records i [] ∷ []), rows, next) at taken;
          gathered = rw next at more;
        }

    -- the record after those that were has a cause, or there was no memory for it
    pub gathering-fault : (d : Arrival) (later : List Record) (cause : BatchCause)
        → (arrival_cause bounds (came ++ take i arrivals) (get_or arrivals i d) ≡ Some cause) ⊎ (cause ≡ Memory)
        → IsBatchFault bounds ((before ++ records) ++ later) (record { at = g.next; cause = cause })
    gathering-fault d later cause reported =
        let many : length (before ++ take i records) ≡ g.next = omega (arith, to.taken.counted, to.gathered.next) in
        rw (← many) (elim reported [
          | inl e ↦
              stop-in (clean-of to.taken) (get_or records i [])
              (drop (i + 1) records ++ later, parted-at before records later i inside)
              (spelled-same (get_or records i []) to.taken
              ∙ ap (spelled_cause bounds (came ++ take i arrivals)) (spells-it d) ∙ e)
          | inr e ↦ stop-other (clean-of to.taken) (drop i records ++ later, parted before records later i) (inr e)
        ])
