-- The records that were taken so far, none of which has a cause.
use Rattle.cn_texts.proofs.Common.{◌≡◌, ◌<◌, ◌≤◌, ℕ, List, [], ◌∷◌, ◌++◌, Option, Some, None, length, get_or, take, refl, arith, suc, subst, ◌∙◌, inl, inr, length-append, IfSome, lt-ltb, le-ltb, ne_eqb, nat_tests, leb_tells, take-append-le, Record, get_or-append, get_or-append_seam, take-append_seam, IsClean, IsCleanBefore, IsFirstFault, cause_by}
use borrow.Author.Count.{below_more}

-- the records so far: a header, and none has a cause
pub record AreClean {C : Type 0} (header : Record → Option C) (later : List Record → Record → Option C)
    (records : List Record)
    : Type 0 where
  pub some : 0 < length records
  pub clean : IsCleanBefore (cause_by header later) records (length records)

module _ {C : Type 0} (header : Record → Option C) (later : List Record → Record → Option C) where
  -- the cause of a record after the header
  pub cause_later : (records : List Record) (n : ℕ) → 0 < n → n < length records
      → cause_by header later records n ≡ later (take n records) (get_or records n [])
  unfolding cause_by
  cause_later records n some h = rw (ne_eqb n 0 (λ e. omega (arith, e)), lt-ltb n (length records) h) refl

  -- the records after it are nothing to a record's cause
  cause-same : (records more : List Record) (n : ℕ) → n < length records
      → cause_by header later (records ++ more) n ≡ cause_by header later records n
  unfolding cause_by
  cause-same records more n h = grind (
    arith,
    nat_tests,
    length-append records more,
    take-append-le n records more (omega (arith, h)),
    get_or-append records more [] n h,
    get_or-append records more [] 0 (omega (arith, h)),
  )

  -- a record after the header is judged after those before it
  cause-new : (records : List Record) (fields : Record) → 0 < length records
      → cause_by header later (records ++ fields ∷ []) (length records) ≡ later records fields
  cause-new records fields some =
      cause_later (records ++ fields ∷ []) (length records) some (omega (arith, length-append records (fields ∷ [])))
      ∙ (λ i. later (take-append_seam records (fields ∷ []) i) (get_or-append_seam records fields [] [] i))

  -- what is no record, and no header, has no cause
  pub cause-past : (records : List Record) (n : ℕ) → 0 < n → length records ≤ n → cause_by header later records n ≡ None
  unfolding cause_by
  cause-past records n some h = rw (ne_eqb n 0 (λ e. omega (arith, e)), le-ltb n (length records) h) refl

  -- the first record is no header, or there is none
  pub no_header : {IsOther : C → Type 0} {all : List Record} {why : C} → header (get_or all 0 []) ≡ Some why
      → IsFirstFault (cause_by header later) IsOther all 0 why
  unfolding cause_by
  no_header e = record { within = omega arith; clean = λ at h. absurd (omega arith); reported = inl e }

module _ {C : Type 0} {header : Record → Option C} {later : List Record → Record → Option C} where
  -- only the header
  pub clean-header : (fields : Record) → header fields ≡ None → AreClean header later (fields ∷ [])
  unfolding cause_by
  clean-header fields e = record {
    some = omega arith;
    clean = λ at h. subst (λ (n : ℕ). cause_by header later (fields ∷ []) n ≡ None)
        (let first : 0 ≡ at = omega arith in first) e;
  }

  -- and a record after it
  pub clean-more : {records : List Record} (fields : Record) → AreClean header later records
      → later records fields ≡ None
      → AreClean header later (records ++ fields ∷ [])
  clean-more {records = records} fields t e = record {
    some = omega (arith, length-append records (fields ∷ []));
    clean = λ at h. below_more (λ (n : ℕ). cause_by header later (records ++ fields ∷ []) n ≡ None) (length records)
        (λ n k. cause-same header later records (fields ∷ []) n k ∙ t.clean n k)
        (cause-new header later records fields t.some ∙ e) at
        (omega (arith, h, length-append records (fields ∷ [])));
  }

  -- all of them
  pub clean-all : {records : List Record} → AreClean header later records → IsClean (cause_by header later) records
  clean-all {records = records} t at = elim (leb_tells (suc at) (length records)) [
    | inl w ↦ t.clean at (omega (arith, w.1))
    | inr w ↦ cause-past header later records at (omega (arith, t.some, w.1)) (omega (arith, w.1))
  ]

  module _ {IsOther : C → Type 0} {all : List Record} {why : C} where
    module _ {records : List Record} (t : AreClean header later records) where
      -- after records without one a record has a cause, whatever comes after it
      pub stop-in : (fields : Record) → (more : List Record) × (all ≡ (records ++ fields ∷ []) ++ more)
          → later records fields ≡ Some why
          → IsFirstFault (cause_by header later) IsOther all (length records) why
      stop-in fields (more, is) e =
          let size = length-append records (fields ∷ []) in
          rw is (record {
            within = omega (arith, size, length-append (records ++ fields ∷ []) more);
            clean = λ n h. cause-same header later (records ++ fields ∷ []) more n (omega (arith, h, size))
                ∙ cause-same header later records (fields ∷ []) n h
                ∙ t.clean n h;
            reported = inl (cause-same header later (records ++ fields ∷ []) more (length records) (omega (arith, size))
                ∙ cause-new header later records fields t.some ∙ e);
          })

      -- after records without one there is what is no record's fault
      pub stop-other : (more : List Record) × (all ≡ records ++ more) → IsOther why
          → IsFirstFault (cause_by header later) IsOther all (length records) why
      stop-other (more, is) other =
          rw is (record {
            within = omega (arith, length-append records more);
            clean = λ n h. cause-same header later records more n h ∙ t.clean n h;
            reported = inr other;
          })

-- what follows of bytes that are known
pub known-map : (known : Option (List ℕ)) (P Q : List ℕ → Type 0) → IfSome known P → ((text : List ℕ) → P text → Q text) → IfSome known Q
known-map None P Q h f = tt
known-map (Some text) P Q h f = f text h
