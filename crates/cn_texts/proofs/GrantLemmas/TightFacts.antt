-- A list is tight exactly where no record has a cause and no epoch lacks a name.
use Rattle.cn_texts.proofs.Common.{nat_tests, ◌≡◌, ◌<◌, ◌≤◌, ℕ, List, [], ◌∷◌, ◌++◌, true, false, Option, Some, None, length, map, take, drop, get_or, refl, arith, suc, zero, sym, ap, ◌∙◌, inl, inr, subst, ◌==◌, ◌≢◌, cons_option, list_any, IfErr, MatchResult, Result, Ok, Err, map-append, filter_map-append, take-append-drop, length-map, filter-append, eq-eqb, eqb_tells, leb_tells, Record, none-some, times, times-append, times-nil, times-cons, IsClean, cause_by, form_cause, grant_spelled, grants_spelled, has_client, has_name, of_epoch, spelled_cause, spelled_form, twice_cause, IsFirstWithCause, IsFlaw, IsOutside, AreTightGrants, IsTightList, Lacks, grants_cause, record_form, Granted, GrantCause, Flaw, Read, Form, DuplicateClient, DuplicateName, Gap, all_below, at_most_once, once_each, once-there}
use Rattle.cn_texts.specs.Grants.TightList.{header_cause, record_cause}
use Rattle.std.proofs.lemmas.Bool.{true_from_ne_false}
use Rattle.std.proofs.Math.Seq.{drop-cons}
use Rattle.cn_texts.proofs.Each.{absent, any-map, present}
use Rattle.cn_texts.proofs.ReadingLemmas.FirstFaults.{cause_later, cause-past}
use Rattle.cn_texts.specs.declared.grants.record.GrantCause.TheVariants as cause
use Rattle.cn_texts.specs.declared.grants.record.Flaw.TheVariants.{Memory}
use Rattle.cn_texts.proofs.GrantLemmas.CheckedGrants.{of-other, of_same}

-- a number that some grant has stands among theirs, and one that none has does not
any-times : (f : Granted → ℕ) (n : ℕ) (gs : List Granted) → list_any (λ g. n == f g) gs ≡ true → 1 ≤ times n (map f gs)
any-times f n gs h = present n (map f gs) (any-map f n gs ∙ h)

none-times : (f : Granted → ℕ) (n : ℕ) (gs : List Granted) → list_any (λ g. n == f g) gs ≡ false → times n (map f gs) ≡ 0
none-times f n gs h = absent n (map f gs) (any-map f n gs ∙ h)

twice-none : (most : ℕ) (before : List Granted) (g : Granted) → spelled_cause most before (Some g) ≡ None
    → has_client g.client (of_epoch g.epoch before) ≡ false
unfolding form_cause twice_cause
twice-none most before g none = grind (arith, none)

-- no client stands twice in an epoch
abbrev pub AreOnce : List Granted → Type 0
AreOnce grants = (e n : ℕ) → times n (map (λ (g : Granted). g.client) (of_epoch e grants)) ≤ 1

pub once-next : (most : ℕ) (before : List Granted) (g : Granted) → AreOnce before → spelled_cause most before (Some g) ≡ None
    → AreOnce (before ++ g ∷ [])
once-next most before g once none e n = elim (eqb_tells g.epoch e) [
  | inl w ↦ rw (of_same before g e w.1) (here w.1)
  | inr w ↦ rw (of-other before g e w.1) (once e n)
]
  where
    free : has_client g.client (of_epoch g.epoch before) ≡ false
    free = twice-none most before g none

    -- its own client is one more of those that stand there, of which it was none
    here : g.epoch ≡ e → times n (map (λ (g : Granted). g.client) (of_epoch e before ++ g ∷ [])) ≤ 1
    here same =
        let clients : List ℕ = map (λ (g : Granted). g.client) (of_epoch e before) in
        let none : times g.client clients ≡ 0 =
        (λ i. times g.client (map (λ (g : Granted). g.client) (of_epoch (sym same i) before)))
        ∙ none-times (λ g. g.client) g.client (of_epoch g.epoch before) free in
        rw (map-append (λ (g : Granted). g.client) (of_epoch e before) (g ∷ []))
        (grind (arith, nat_tests, none, once e n, times-append n clients (g.client ∷ []), times-cons n g.client [], times-nil n))

-- a cause that another implies
weaker : (header : Record → Option GrantCause) (one other : List Record → Record → Option GrantCause)
    (records : List Record)
    → ((n : ℕ) → 0 < n → n < length records → one (take n records) (get_or records n []) ≡ None
    → other (take n records) (get_or records n []) ≡ None)
    → (at : ℕ) → cause_by header one records at ≡ None → cause_by header other records at ≡ None
unfolding cause_by
weaker header one other records less zero e = e
weaker header one other records less (suc m) e = elim (leb_tells (suc (suc m)) (length records)) [
  | inl w ↦
      cause_later header other records (suc m) (omega arith) w.1
      ∙ less (suc m) (omega arith) w.1 (sym (cause_later header one records (suc m) (omega arith) w.1) ∙ e)
  | inr w ↦ cause-past header other records (suc m) (omega arith) (omega (arith, w.1))
]

form_of : (most : ℕ) (before : List Granted) (spelled : Option Granted) → spelled_cause most before spelled ≡ None
    → spelled_form most before spelled ≡ None
form_of most before spelled e = grind (arith, e)

-- an epoch that lacks no name is tight
epoch-tight : (grants : List Granted) → ((n : ℕ) → times n (map (λ (g : Granted). g.client) grants) ≤ 1)
    → ((n : ℕ) → n < length grants → has_name n grants ≡ true) → AreTightGrants grants
epoch-tight grants once there = record {
  clients = once;
  names = all_below (length grants) (map (λ (g : Granted). g.name) grants) (length-map grants (λ (g : Granted). g.name))
      (λ n h. any-times (λ g. g.name) n grants (there n h));
}

-- the list is tight where no record has a cause, no client stands twice in an epoch, and no epoch lacks a name
pub list-tight : (most : ℕ) (records : List Record) (grants : List Granted) → IsClean (grants_cause most) records
    → grants_spelled (drop 1 records) ≡ grants → AreOnce grants → ((e n : ℕ) → Lacks grants e n → ⊥) → IsTightList most records
list-tight most records grants clean spells once full = record {
  form = λ at. weaker header_cause (record_cause most) (record_form most) records
      (λ n some h. form_of most (grants_spelled (drop 1 (take n records))) (grant_spelled (get_or records n []))) at
      (clean at);
  tight = λ e. rw spells (epoch-tight (of_epoch e grants) (once e)
      (λ n h. true_from_ne_false (has_name n (of_epoch e grants)) (λ f. full e n (h, f))));
}

-- the other way: each record of a tight list has no cause
module _ (gb gm : List Granted) (g : Granted) (tight : AreTightGrants (of_epoch g.epoch (gb ++ g ∷ gm))) where
  around : of_epoch g.epoch (gb ++ g ∷ gm) ≡ of_epoch g.epoch gb ++ g ∷ of_epoch g.epoch gm
  around = filter-append (λ (x : Granted). x.epoch == g.epoch) gb (g ∷ gm) ∙ rw (eq-eqb g.epoch g.epoch refl) refl

  first_time : (f : Granted → ℕ) → times (f g) (map f (of_epoch g.epoch (gb ++ g ∷ gm))) ≤ 1
      → list_any (λ x. f g == f x) (of_epoch g.epoch gb) ≡ false
  first_time f most =
      let whole : times (f g) (map f (of_epoch g.epoch (gb ++ g ∷ gm)))
      ≡ times (f g) (map f (of_epoch g.epoch gb) ++ f g ∷ map f (of_epoch g.epoch gm)) =
      ap (λ (l : List Granted). times (f g) (map f l)) around
      ∙ ap (times (f g)) (map-append f (of_epoch g.epoch gb) (g ∷ of_epoch g.epoch gm)) in
      grind (
        arith,
        nat_tests,
        most,
        whole,
        any-times f (f g) (of_epoch g.epoch gb),
        times-append (f g) (map f (of_epoch g.epoch gb)) (f g ∷ map f (of_epoch g.epoch gm)),
        times-cons (f g) (f g) (map f (of_epoch g.epoch gm)),
      )

  no-twice : twice_cause gb g ≡ None
  unfolding twice_cause
  no-twice =
      let k = length (of_epoch g.epoch (gb ++ g ∷ gm)) in
      let names : times g.name (map (λ (x : Granted). x.name) (of_epoch g.epoch (gb ++ g ∷ gm))) ≤ 1 =
      omega (
        arith,
        once_each k (map (λ (x : Granted). x.name) (of_epoch g.epoch (gb ++ g ∷ gm))) tight.names g.name,
        at_most_once k g.name,
      ) in
      rw (first_time (λ x. x.client) (tight.clients g.client), first_time (λ x. x.name) names) refl

-- the grants round a record
grants-round : (records : List Record) (m : ℕ) (g : Granted) → m < length records → grant_spelled (get_or records m []) ≡ Some g
    → grants_spelled records ≡ grants_spelled (take m records) ++ g ∷ grants_spelled (drop (suc m) records)
grants-round records m g h is =
    ap grants_spelled (sym (take-append-drop m records)
    ∙ ap (λ (l : List Record). take m records ++ l) (drop-cons records m [] h))
    ∙ filter_map-append grant_spelled (take m records) (get_or records m [] ∷ drop (suc m) records)
    ∙ (λ i. grants_spelled (take m records) ++ cons_option (is i) (grants_spelled (drop (suc m) records)))

at-record : (most : ℕ) (records : List Record) (n : ℕ) → 0 < n → n < length records
    → ((epoch : ℕ) → AreTightGrants (of_epoch epoch (grants_spelled (drop 1 records))))
    → record_form most (take n records) (get_or records n []) ≡ None
    → record_cause most (take n records) (get_or records n []) ≡ None
at-record most [] n some h tight = absurd (omega arith)
at-record most (r ∷ records) zero some h tight = absurd (omega arith)
at-record most (r ∷ records) (suc m) some h tight = each (grant_spelled (get_or records m [])) refl
  where
    each : (spelled : Option Granted) → grant_spelled (get_or records m []) ≡ spelled
        → spelled_form most (grants_spelled (take m records)) spelled ≡ None
        → spelled_cause most (grants_spelled (take m records)) spelled ≡ None
    each None is e = e
    each (Some g) is e =
        rw e (no-twice (grants_spelled (take m records)) (grants_spelled (drop (suc m) records)) g
        (subst (λ (l : List Granted). AreTightGrants (of_epoch g.epoch l))
        (grants-round records m g (omega (arith, h)) is) (tight g.epoch)))

tight-clean : (most : ℕ) (records : List Record) → IsTightList most records → IsClean (grants_cause most) records
tight-clean most records t at =
    weaker header_cause (record_form most) (record_cause most) records
    (λ n some h. at-record most records n some h t.tight) at (t.form at)

tight-full : (grants : List Granted) → AreTightGrants grants → (n : ℕ) → n < length grants → has_name n grants ≡ false → ⊥
tight-full grants t n h e =
    omega (
      arith,
      none-times (λ g. g.name) n grants e,
      once_each (length grants) (map (λ (g : Granted). g.name) grants) t.names n,
      once-there (length grants) n h,
    )

no_first : (most : ℕ) (records : List Record) (at : ℕ) (why : GrantCause) → why ≢ cause.Read → why ≢ cause.Memory
    → IsFirstWithCause most records at why → IsTightList most records → ⊥
no_first most records at why unread some fault t =
    elim fault.reported [
      | inl e ↦ none-some why (sym (tight-clean most records t at) ∙ e)
      | inr (inl e) ↦ unread e
      | inr (inr e) ↦ some e
    ]

-- a tight list has no flaw but a failed read and want of memory
pub tight-flaw : (most : ℕ) (records : List Record) (flaw : Flaw) → IsFlaw most records flaw → IsTightList most records → IsOutside flaw
tight-flaw most records (Read at) h t = tt
tight-flaw most records Memory h t = tt
tight-flaw most records (Form at) h t = no_first most records at cause.Form (λ e. cc e) (λ e. cc e) h t
tight-flaw most records (DuplicateClient at) h t = no_first most records at cause.DuplicateClient (λ e. cc e) (λ e. cc e) h t
tight-flaw most records (DuplicateName at) h t = no_first most records at cause.DuplicateName (λ e. cc e) (λ e. cc e) h t
tight-flaw most records (Gap epoch name) h t =
    tight-full (of_epoch epoch (grants_spelled (drop 1 records))) (t.tight epoch) name h.1.lacks.0 h.1.lacks.1

pub exact : {T : Type 0} (P : T → Type 0) (most : ℕ) (records : List Record) (result : Result T Flaw)
    → MatchResult result P (IsFlaw most records) → IfErr result (λ flaw. IsTightList most records → IsOutside flaw)
exact P most records (Ok x) h = tt
exact P most records (Err flaw) h = λ t. tight-flaw most records flaw h t
