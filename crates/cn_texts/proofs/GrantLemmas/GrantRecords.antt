-- The records of a grant list that were taken so far.
use Rattle.cn_texts.proofs.Common.{◌≡◌, ◌<◌, ◌+◌, ◌⊎◌, ℕ, List, ◌∷◌, [], ◌++◌, Option, Some, None, append-nil, append_assoc, inl, inr, length, drop, suc, take, zero, refl, arith, sym, ap, ◌∙◌, length-append, filter_map-append, IfOk, MatchResult, Ok, Err, Result, map, counts_of, shares, Record, first_cause, form_cause, grant_spelled, grants_spelled, of_epoch, spelled_cause, spelled_form, twice_cause, slice_get-get_or, get_or, get_or_from_slice_get, get_or-append_seam, cons_option, take-append-le, take-append_seam, take_all, ◌≤◌, take-length, length-take-le, slice_get_within, AreFresh, AreFreshBefore, IsTwice, IsNamedList, epoch_numbers, named_epoch, plain_named, NamedEpoch, counts-shares, Granted, GrantCause, times-nil, IsFirstWithCause, IsFlaw, IsEndFlaw, flaw_of, IsTightList, Lacks, Flaw, Read, Form, DuplicateClient, DuplicateName, Gap}
use Rattle.cn_texts.specs.Grants.TightList.{header_cause, record_cause}
use Rattle.cn_texts.specs.declared.grants.record.GrantCause.TheVariants as cause
use Rattle.cn_texts.proofs.ReadingLemmas.FirstFaults.{AreClean, clean-all, clean-header, clean-more, stop-in}
use Rattle.cn_texts.proofs.ReadingLemmas.RecordLists.{parted-at, same-length, spelled-at, spelled-more}
use Rattle.cn_texts.proofs.GrantLemmas.CheckedGrants.{nobody}
use borrow.Author.Count.{below_more}
use mathlib.Core.List.{map-map}
use Rattle.std.proofs.lemmas.List.{get_or_append_left}
use Rattle.std.proofs.Math.Seq.{take-suc}
use Rattle.cn_texts.proofs.GrantLemmas.TightFacts.{AreOnce, list-tight, once-next}
use Rattle.cn_texts.specs.declared.grants.record.Flaw.TheVariants.{Memory}

-- the records so far: a header, and a record for each grant
pub record AreRead (most : ℕ) (records : List Record) (grants : List Granted) : Type 0 where
  pub clean : AreClean header_cause (record_cause most) records
  pub spells : grants_spelled (drop 1 records) ≡ grants
  pub counted : length grants + 1 ≡ length records
  pub once : AreOnce grants

pub taken-header : {most : ℕ} (fields : Record) → header_cause fields ≡ None → AreRead most (fields ∷ []) []
taken-header fields e =
    record { clean = clean-header fields e; spells = refl; counted = refl; once = λ e n. omega (arith, times-nil n) }

taken-next : (most : ℕ) (records : List Record) (grants : List Granted) (fields : Record) (grant : Granted)
    → AreRead most records grants
    → grant_spelled fields ≡ Some grant → spelled_cause most grants (Some grant) ≡ None
    → AreRead most (records ++ fields ∷ []) (grants ++ grant ∷ [])
taken-next most [] grants fields grant t is none = absurd (omega (arith, t.clean.some))
taken-next most (r ∷ records) grants fields grant t is none = record {
  clean = clean-more fields t.clean ((λ i. spelled_cause most (t.spells i) (is i)) ∙ none);
  spells = filter_map-append grant_spelled records (fields ∷ []) ∙ (λ i. t.spells i ++ cons_option (is i) []);
  counted = omega (arith, t.counted, length-append grants (grant ∷ []), length-append (r ∷ records) (fields ∷ []));
  once = once-next most grants grant t.once none;
}

-- the cause of the next record, by the grants before it
pub at-grants : {most : ℕ} {records : List Record} {grants : List Granted} (fields : Record) (cause : GrantCause)
    → AreRead most records grants
    → spelled_cause most grants (grant_spelled fields) ≡ Some cause → record_cause most records fields ≡ Some cause
at-grants {most = most} fields cause t e = (λ i. spelled_cause most (t.spells i) (grant_spelled fields)) ∙ e

-- a record's cause is the flaw's
pub first-flaw : (most : ℕ) (records : List Record) (at : ℕ) (why : GrantCause) → IsFirstWithCause most records at why
    → IsFlaw most records (flaw_of at why)
first-flaw most records at cause.Read h = h
first-flaw most records at cause.Form h = h
first-flaw most records at cause.DuplicateClient h = h
first-flaw most records at cause.DuplicateName h = h
first-flaw most records at cause.Memory h = tt

-- each of these records, after the grants before it, spells a grant whose form has no cause
pub record Follow (most : ℕ) (before : List Granted) (records : List Record) (grants : List Granted) : Type 0 where
  pub spelled : map grant_spelled records ≡ map Some grants
  pub form : (i : ℕ) → i < length grants → form_cause most (before ++ take i grants) (get_or grants i nobody) ≡ None

pub follow-none : (most : ℕ) (before : List Granted) → Follow most before [] []
follow-none most before = record { spelled = refl; form = λ i h. absurd (omega (arith, h)) }

pub follow-more : {most : ℕ} (before : List Granted) (records : List Record) (grants : List Granted) (fields : Record)
    (grant : Granted)
    → Follow most before records grants → grant_spelled fields ≡ Some grant → form_cause most (before ++ grants) grant ≡ None
    → Follow most before (records ++ fields ∷ []) (grants ++ grant ∷ [])
follow-more {most = most} before records grants fields grant follow is none = record {
  spelled = spelled-more grant_spelled Some records grants follow.spelled fields grant is;
  form = λ i h.
      let all = grants ++ grant ∷ [] in
      below_more (λ (k : ℕ). form_cause most (before ++ take k all) (get_or all k nobody) ≡ None) (length grants)
      (λ k l. (λ j. form_cause most (before ++ take-append-le k grants (grant ∷ []) (omega (arith, l)) j)
      (get_or_append_left grants (grant ∷ []) nobody k l j)) ∙ follow.form k l)
      ((λ j. form_cause most (before ++ take-append_seam grants (grant ∷ []) j)
      (get_or-append_seam grants grant [] nobody j)) ∙ none)
      i (omega (arith, h, length-append grants (grant ∷ [])));
}

module _ {most : ℕ} {done records : List Record} {before grants : List Granted} (t : AreRead most done before)
    (follow : Follow most before records grants) where
  as-many : length records ≡ length grants
  as-many = same-length grant_spelled Some records grants follow.spelled

  -- with no client and no name twice, records that follow are taken too
  taken-some : (end : ℕ) → end ≤ length grants → AreFreshBefore before grants end
      → AreRead most (done ++ take end records) (before ++ take end grants)
  taken-some zero le fresh = rw (append-nil done, append-nil before) t
  taken-some (suc end) le fresh =
      let g = get_or grants end nobody in
      let within : end < length grants = omega (arith, le) in
      let so = taken-some end (omega (arith, le)) (λ i x h. fresh i x (omega (arith, h))) in
      let none = fresh end g (omega arith) (slice_get-get_or grants end nobody within) in
      let one = taken-next most (done ++ take end records) (before ++ take end grants) (get_or records end []) g so
      (spelled-at grant_spelled Some records grants follow.spelled end nobody within)
      ((λ i. first_cause (follow.form end within i) (twice_cause (before ++ take end grants) g)) ∙ none) in
      rw (
        append_assoc done (take end records) (get_or records end [] ∷ []),
        append_assoc before (take end grants) (g ∷ []),
        sym (take-suc records end [] (omega (arith, within, as-many))),
        sym (take-suc grants end nobody within),
      ) at one

  -- all of them
  pub taken-fresh : AreFresh before grants → AreRead most (done ++ records) (before ++ grants)
  taken-fresh fresh =
      rw (take_all (length grants) records (omega (arith, as-many)), take-length grants) at
      (taken-some (length grants) (omega arith) fresh)

  -- the first with a client or a name twice has the first cause
  pub twice-flaw : (all more : List Record) (flaw : Flaw) → all ≡ (done ++ records) ++ more → IsTwice before grants flaw
      → IsFlaw most all flaw
  twice-flaw all more flaw is twice =
      let place = twice.place in
      let fields = get_or records place [] in
      let within = slice_get_within grants place twice.grant twice.there in
      let some = taken-some place (omega (arith, within)) twice.fresh in
      let own = get_or_from_slice_get grants place twice.grant nobody twice.there in
      let spelled = spelled-at grant_spelled Some records grants follow.spelled place nobody within in
      let caused : spelled_cause most (before ++ take place grants) (grant_spelled fields) ≡ Some twice.cause =
      ap (spelled_cause most (before ++ take place grants)) spelled
      ∙ (λ i. first_cause (follow.form place within i) (twice_cause (before ++ take place grants) (own i)))
      ∙ twice.twice in
      let inside : place < length records = omega (arith, within, as-many) in
      let front = length-take-le place records (omega (arith, inside)) in
      let number : length (done ++ take place records) ≡ length before + 1 + place =
      omega (arith, length-append done (take place records), front, t.counted) in
      rw twice.is (first-flaw most all (length before + 1 + place) twice.cause (rw (← number)
      (stop-in some.clean fields (drop (place + 1) records ++ more, is ∙ parted-at done records more place inside)
      (at-grants fields twice.cause some caused))))

-- the form's cause is the first
pub form-first : (most : ℕ) (grants : List Granted) (spelled : Option Granted) (cause : GrantCause)
    → spelled_form most grants spelled ≡ Some cause → spelled_cause most grants spelled ≡ Some cause
form-first most grants spelled cause e = grind (arith, e)

pub taken-gap : (most : ℕ) (all records : List Record) (grants : List Granted) (flaw : Flaw) → AreRead most records grants → all ≡ records
    → IsEndFlaw grants flaw → IsFlaw most all flaw
taken-gap most all records grants (Gap epoch name) t e gap =
    rw e (clean-all t.clean, rw t.spells gap)
taken-gap most all records grants Memory t e gap = tt
taken-gap most all records grants (Read at) t e gap = absurd gap
taken-gap most all records grants (Form at) t e gap = absurd gap
taken-gap most all records grants (DuplicateClient at) t e gap = absurd gap
taken-gap most all records grants (DuplicateName at) t e gap = absurd gap

-- what the end gives
pub taken-end : {V : Type 0} (items : V → List NamedEpoch) (most : ℕ) (all done : List Record) (before : List Granted)
    (records : List Record) (grants : List Granted) (result : Result V Flaw) → AreRead most done before → Follow most before records grants
    → all ≡ done ++ records
    → MatchResult result (λ _. AreFresh before grants × ((e n : ℕ) → Lacks (before ++ grants) e n → ⊥))
    (λ flaw. IsTwice before grants flaw ⊎ (flaw ≡ Memory) ⊎ (AreFresh before grants × IsEndFlaw (before ++ grants) flaw))
    → IfOk result (λ epochs. map plain_named (items epochs) ≡ map (named_epoch (before ++ grants)) (epoch_numbers (before ++ grants)))
    → MatchResult result (λ epochs. IsNamedList most all (items epochs)) (IsFlaw most all)
taken-end items most all done before records grants (Ok epochs) start follow e (fresh, full) found =
    let t = taken-fresh start follow fresh in
    let of = grants_spelled (drop 1 all) in
    let spells : of ≡ before ++ grants = ap (λ (l : List Record). grants_spelled (drop 1 l)) e ∙ t.spells in
    let list : IsTightList most all = rw e (list-tight most (done ++ records) (before ++ grants)
    (clean-all t.clean) t.spells t.once full) in
    record {
      tight = list;
      printed = λ width.
          let shared : ℕ × ℕ → ℕ × ℕ × List ℕ = λ p. (p.0, p.1, shares p.1 width) in
          let counts : (e : ℕ) → shares (length (of_epoch e of)) width
          ≡ counts_of width (map (λ (g : Granted). g.name) (of_epoch e of)) =
          λ e. sym (counts-shares width (length (of_epoch e of)) (map (λ (g : Granted). g.name) (of_epoch e of))
          (list.tight e).names) in
          sym (map-map shared plain_named (items epochs))
          ∙ ap (map shared) (found ∙ (λ i. map (named_epoch (sym spells i)) (epoch_numbers (sym spells i))))
          ∙ map-map shared (named_epoch of) (epoch_numbers of)
          ∙ (λ i. map (λ (e : ℕ). (e, length (of_epoch e of), counts e i)) (epoch_numbers of));
    }
taken-end items most all done before records grants (Err flaw) start follow e end found = elim end [
  | inl twice ↦ twice-flaw start follow all [] flaw (e ∙ sym (append-nil (done ++ records))) twice
  | inr (inl none) ↦ rw none tt
  | inr (inr (fresh, gap)) ↦ taken-gap most all (done ++ records) (before ++ grants) flaw
      (taken-fresh start follow fresh) e gap
]
