-- The grants that were seen so far.
use Rattle.cn_texts.proofs.Common.{◌≡◌, ◌<◌, ◌≤◌, ◌+◌, ℕ, List, [], ◌∷◌, ◌++◌, true, false, Option, Some, None, length, get_or, refl, arith, suc, sym, ap, ◌∙◌, inl, inr, map, subst, take, length-append, length-map, get_or-map, append_assoc, if◌then◌else◌, ◌==◌, ◌⊎◌, AllByRecursion, list_any, append-nil, map-append, filter-append, fold-append, All-from_recursion, All-get_or, lt-ltb, ne_eqb, eq-eqb, leb_tells, nat_tests, leb, IfSome, slice_get, get_or-take, length-take-le, All-from_get_or, list_any_at, list_any_none, get_or_from_slice_get, slice_get-get_or, slice_get_within, AreFresh, AreFreshBefore, AreSeen, HoldsGrants, IsChecked, IsGapBelow, IsTwice, Tells, latest_number, latest_seen, IsFirstRepeat, IsRepeat, occurrences_from, epoch_numbers, named_epoch, plain_named, with_number, form_cause, has_name, last_epoch, of_epoch, twice_cause, Lacks, Granted, DuplicateClient, DuplicateName, Occurrence}
use Rattle.std.specs.Option.{is_some}
use Rattle.std.proofs.lemmas.List.Elements.{All-take, recursion_from_All}
use Rattle.cn_texts.proofs.Each.{any-map, each-append, each-weaker, last-there, not-there}
use Rattle.cn_texts.specs.declared.grants.record.GrantCause.TheVariants as cause
use Rattle.cn_texts.specs.declared.grants.epochs.Gap.{Gap}
use Rattle.cn_texts.specs.declared.grants.epochs.Granting.{Granting}
use Rattle.cn_texts.proofs.GrantLemmas.Repeats.{length-occurrences, no-occurrences, occurrence, occurrences-more}

-- earlier grants and those of the latest epoch
up-to : {g : Granting} {earlier latest : List Granted} → HoldsGrants g earlier latest
    → AllByRecursion (λ x. x.epoch ≤ g.latest) (earlier ++ latest)
up-to {g = g} {earlier = earlier} {latest = latest} held =
    each-append (λ x. x.epoch ≤ g.latest) earlier latest
    (each-weaker (λ (x : Granted). x.epoch < g.latest) (λ x. x.epoch ≤ g.latest)
    (λ x h. omega (arith, h)) earlier held.below)
    (each-weaker (λ (x : Granted). x.epoch ≡ g.latest) (λ x. x.epoch ≤ g.latest)
    (λ x h. omega (arith, h)) latest held.here)

before-next : (k n : ℕ) (grants : List Granted) → k < n → AllByRecursion (λ x. x.epoch ≤ k) grants
    → AllByRecursion (λ x. x.epoch < n) grants
before-next k n grants h = each-weaker (λ x. x.epoch ≤ k) (λ x. x.epoch < n) (λ x l. omega (arith, l, h)) grants

none-before : (k : ℕ) (grants : List Granted) → AllByRecursion (λ x. x.epoch < k) grants → of_epoch k grants ≡ []
none-before k [] all = refl
none-before k (g ∷ grants) all = rw (ne_eqb g.epoch k (λ e. omega (arith, e, all.0))) (none-before k grants all.1)

all-here : (k : ℕ) (grants : List Granted) → AllByRecursion (λ x. x.epoch ≡ k) grants → of_epoch k grants ≡ grants
all-here k [] all = refl
all-here k (g ∷ grants) all = rw (eq-eqb g.epoch k all.0) (ap (λ (l : List Granted). g ∷ l) (all-here k grants all.1))

of-latest : (k : ℕ) (earlier latest : List Granted) → AllByRecursion (λ x. x.epoch < k) earlier
    → AllByRecursion (λ x. x.epoch ≡ k) latest → of_epoch k (earlier ++ latest) ≡ latest
of-latest k earlier latest below here =
    filter-append (λ (g : Granted). g.epoch == k) earlier latest ∙ (λ i. none-before k earlier below i ++ all-here k latest here i)

-- no epoch above all of them lacks a name
no-lack-above : (k e n : ℕ) (grants : List Granted) → k < e → AllByRecursion (λ x. x.epoch ≤ k) grants
    → Lacks grants e n → ⊥
no-lack-above k e n grants h all lack =
    omega (arith, lack.0, ap length (none-before e grants (before-next k e grants h all)))

-- so the first gap of those up to the greatest is the first of those below any other
gap-further : (k end : ℕ) (grants : List Granted) (gap : Option Gap) → k < end
    → AllByRecursion (λ x. x.epoch ≤ k) grants
    → IsGapBelow (k + 1) grants gap → IsGapBelow end grants gap
gap-further k end grants None h all none = λ e n lt lack. elim (leb_tells e k) [
  | inl w ↦ none e n (omega (arith, w.1)) lack
  | inr w ↦ no-lack-above k e n grants w.1 all lack
]
gap-further k end grants (Some gap) h all least = record {
  below = omega (arith, least.below, h);
  lacks = least.lacks;
  first = λ e n lt lack. elim (leb_tells e k) [
    | inl w ↦ least.first e n (omega (arith, w.1)) lack
    | inr w ↦ absurd (no-lack-above k e n grants w.1 all lack)
  ];
  least = least.least;
}

pub as-many : (f : Granted → ℕ) (latest : List Granted) (items : List Occurrence)
    → items ≡ occurrences_from 0 (map f latest)
    → length items ≡ length latest
as-many f latest items is = ap length is ∙ length-occurrences 0 (map f latest) ∙ length-map latest f

-- what was seen, once a later epoch has come
pub turned : {old new : Granting} {earlier latest : List Granted} → HoldsGrants old earlier latest
    → old.latest < new.latest
    → new.before ≡ old.before + length old.clients.items → new.clients.items ≡ [] → new.names.items ≡ []
    → IsGapBelow (old.latest + 1) (earlier ++ latest) new.gap → HoldsGrants new (earlier ++ latest) []
turned {old = old} {new = new} {earlier = earlier} {latest = latest} held h before clients names gap =
    let all = up-to held in
    let many = as-many (λ x. x.client) latest old.clients.items held.clients in record {
      before = omega (arith, before, held.before, many, length-append earlier latest);
      below = before-next old.latest new.latest (earlier ++ latest) h all;
      here = tt;
      clients = clients ∙ no-occurrences 0;
      names = names ∙ no-occurrences 0;
      gap = subst (λ (l : List Granted). IsGapBelow new.latest l new.gap) (sym (append-nil (earlier ++ latest)))
          (gap-further old.latest new.latest (earlier ++ latest) new.gap h all gap);
    }

-- the form's cause
pub form-back : (most : ℕ) (before : List Granted) (g : Granted)
    → (g.epoch < last_epoch before) ⊎ (most ≤ length before)
    → form_cause most before g ≡ Some cause.Form
unfolding form_cause
form-back most before g h = grind (arith, nat_tests)

pub form-none : (most : ℕ) (before : List Granted) (g : Granted) → last_epoch before ≤ g.epoch → length before < most
    → form_cause most before g ≡ None
unfolding form_cause
form-none most before g h few = grind (arith, nat_tests, h, few)

-- the grants of an epoch, with one more
pub of_same : (before : List Granted) (grant : Granted) (e : ℕ) → grant.epoch ≡ e
    → of_epoch e (before ++ grant ∷ []) ≡ of_epoch e before ++ grant ∷ []
of_same before grant e same = filter-append (λ (g : Granted). g.epoch == e) before (grant ∷ [])
    ∙ rw (eq-eqb grant.epoch e same) refl

pub of-other : (before : List Granted) (grant : Granted) (e : ℕ) → (grant.epoch ≡ e → ⊥)
    → of_epoch e (before ++ grant ∷ []) ≡ of_epoch e before
of-other before grant e other =
    filter-append (λ (g : Granted). g.epoch == e) before (grant ∷ [])
    ∙ rw (ne_eqb grant.epoch e other) (append-nil (of_epoch e before))

gap-more : (before : List Granted) (grant : Granted) (gap : Option Gap) → IsGapBelow grant.epoch before gap
    → IsGapBelow grant.epoch (before ++ grant ∷ []) gap
gap-more before grant None none = λ e n lt lack.
    none e n lt (rw (of-other before grant e (λ x. omega (arith, x, lt))) at lack)
gap-more before grant (Some gap) least =
    let same = of-other before grant gap.epoch (λ x. omega (arith, x, least.below)) in record {
      below = least.below;
      lacks = rw same least.lacks;
      first = λ e n lt lack. least.first e n lt (rw (of-other before grant e (λ x. omega (arith, x, lt))) at lack);
      least = λ n lack. least.least n (rw same at lack);
    }

-- what is found of the epochs that ended, once the latest does too
seen-all : (k n : ℕ) (ended : List (ℕ × ℕ)) → k < n → AllByRecursion (λ p. p.0 < k) ended → AllByRecursion (λ p. p.0 < n) ended
seen-all k n ended h = each-weaker (λ p. p.0 < k) (λ p. p.0 < n) (λ p l. omega (arith, l, h)) ended

seen-turn : (ended : List (ℕ × ℕ)) (latest count next : ℕ) (grants : List Granted) → AreSeen ended latest count grants
    → count ≡ length (of_epoch latest grants) → latest < next
    → AreSeen (ended ++ latest_seen latest count) next 0 grants
seen-turn ended latest count next grants t size h = elim (leb_tells 1 count) [
  | inl w ↦ rw w.0 (record {
    numbers = (rw w.0 at t.numbers) ∙ sym (append-nil (map (λ (p : ℕ × ℕ). p.0) ended ++ latest ∷ []))
        ∙ ap (λ (l : List ℕ). l ++ []) (sym (map-append (λ (p : ℕ × ℕ). p.0) ended ((latest, count) ∷ [])));
    seen = (λ i. t.seen i ++ (latest, size i) ∷ [])
        ∙ sym (map-append (named_epoch grants) (map (λ (p : ℕ × ℕ). p.0) ended) (latest ∷ []))
        ∙ ap (map (named_epoch grants)) (sym (map-append (λ (p : ℕ × ℕ). p.0) ended ((latest, count) ∷ [])));
    below = each-append (λ p. p.0 < next) ended ((latest, count) ∷ []) (seen-all latest next ended h t.below) (h, tt);
  })
  | inr w ↦ rw (w.0, append-nil ended) (record {
    numbers = rw w.0 at t.numbers;
    seen = t.seen;
    below = seen-all latest next ended h t.below;
  })
]

shared_same : (latest : ℕ) (ended : List (ℕ × ℕ)) (grants : List Granted) (g : Granted) → g.epoch ≡ latest
    → AllByRecursion (λ p. p.0 < latest) ended
    → map (named_epoch grants) (map (λ p. p.0) ended) ≡ map (named_epoch (grants ++ g ∷ [])) (map (λ p. p.0) ended)
shared_same latest [] grants g here all = refl
shared_same latest (p ∷ ended) grants g here all =
    let same : of_epoch p.0 grants ≡ of_epoch p.0 (grants ++ g ∷ []) = sym (of-other grants g p.0 (λ x. omega (arith, x, here, all.0))) in
    λ i. (p.0, length (same i)) ∷ shared_same latest ended grants g here all.1 i

seen-more : (ended : List (ℕ × ℕ)) (latest count : ℕ) (grants : List Granted) (g : Granted) → AreSeen ended latest count grants
    → g.epoch ≡ latest
    → AreSeen ended latest (count + 1) (grants ++ g ∷ [])
seen-more ended latest count grants g t here = record {
  numbers = fold-append (λ (numbers : List ℕ) (x : Granted). with_number numbers x.epoch) [] grants (g ∷ [])
      ∙ (λ i. with_number (t.numbers i) (here i)) ∙ each (leb_tells 1 count)
      ∙ ap (λ b. map (λ (p : ℕ × ℕ). p.0) ended ++ (if b then latest ∷ [] else [])) (sym (lt-ltb 0 (count + 1) (omega arith)));
  seen = t.seen ∙ shared_same latest ended grants g here t.below;
  below = t.below;
}
  where
    each : ((leb 1 count ≡ true) × (1 ≤ count)) ⊎ ((leb 1 count ≡ false) × (count < 1))
        → with_number (map (λ p. p.0) ended ++ latest_number latest count) latest ≡ map (λ p. p.0) ended ++ latest ∷ []
    each (inl w) = rw w.0 (rw (last-there latest (map (λ p. p.0) ended)) refl)
    each (inr w) = rw (w.0, append-nil (map (λ (p : ℕ × ℕ). p.0) ended))
        (rw (any-map (λ p. p.0) latest ended ∙ not-there (λ p. p.0) latest ended t.below) refl)

-- the same of the latest epoch's grants, once it ended
pub seen-latest : {g : Granting} {earlier latest : List Granted} (ended : List (ℕ × ℕ)) (next : ℕ)
    → HoldsGrants g earlier latest
    → Tells g earlier latest → g.gap ≡ None → g.latest < next
    → ended ≡ map plain_named g.ended.items ++ latest_seen g.latest (length g.clients.items)
    → AreSeen ended next 0 (earlier ++ latest)
seen-latest {g = g} {earlier = earlier} {latest = latest} ended next held tells none h is =
    rw (is, as-many (λ x. x.client) latest g.clients.items held.clients)
    (seen-turn (map plain_named g.ended.items) g.latest (length latest) next (earlier ++ latest)
    (tells none) (sym (ap length (of-latest g.latest earlier latest held.below held.here))) h)

-- what is found at the end
pub seen-end : (ended : List (ℕ × ℕ)) (next : ℕ) (grants : List Granted) → AreSeen ended next 0 grants
    → ended ≡ map (named_epoch grants) (epoch_numbers grants)
seen-end ended next grants t = t.seen ∙ ap (map (named_epoch grants)) (sym (t.numbers ∙ append-nil (map (λ (p : ℕ × ℕ). p.0) ended)))

-- one more grant of the latest epoch
module _ {old : Granting} {earlier latest : List Granted} (grant : Granted) (held : HoldsGrants old earlier latest)
    (here : old.latest ≡ grant.epoch) where
  longer : (f : Granted → ℕ) → occurrences_from 0 (map f latest) ++ occurrence (f grant) (length old.clients.items) ∷ []
      ≡ occurrences_from 0 (map f (latest ++ grant ∷ []))
  longer f =
      let place : length old.clients.items ≡ 0 + length (map f latest) =
      omega (arith, as-many (λ x. x.client) latest old.clients.items held.clients, length-map latest f) in
      ap (λ (p : ℕ). occurrences_from 0 (map f latest) ++ occurrence (f grant) p ∷ []) place
      ∙ sym (occurrences-more 0 (map f latest) (f grant)) ∙ ap (occurrences_from 0) (sym (map-append f latest (grant ∷ [])))

  pub added : {new : Granting} → new.latest ≡ old.latest → new.ended ≡ old.ended → new.gap ≡ old.gap
      → new.before ≡ old.before
      → new.clients.items ≡ old.clients.items ++ occurrence grant.client (length old.clients.items) ∷ []
      → new.names.items ≡ old.names.items ++ occurrence grant.name (length old.clients.items) ∷ [] → Tells old earlier latest
      → IsChecked new earlier (latest ++ grant ∷ [])
  added same ended gap before clients names tells =
      let apart : earlier ++ (latest ++ grant ∷ []) ≡ (earlier ++ latest) ++ grant ∷ [] = sym (append_assoc earlier latest (grant ∷ [])) in
      record {
        holds = record {
          before = before ∙ held.before;
          below = rw same held.below;
          here = rw same (each-append (λ x. x.epoch ≡ old.latest) latest (grant ∷ []) held.here (sym here, tt));
          clients = clients ∙ ap (λ (l : List Occurrence). l ++ occurrence grant.client (length old.clients.items) ∷ []) held.clients
              ∙ longer (λ x. x.client);
          names = names ∙ ap (λ (l : List Occurrence). l ++ occurrence grant.name (length old.clients.items) ∷ []) held.names
              ∙ longer (λ x. x.name);
          gap = rw (apart, gap) (subst (λ (e : ℕ). IsGapBelow e ((earlier ++ latest) ++ grant ∷ []) old.gap) (sym (same ∙ here))
              (gap-more (earlier ++ latest) grant old.gap (subst (λ (e : ℕ). IsGapBelow e (earlier ++ latest) old.gap) here held.gap)));
        };
        last = rw apart (fold-append (λ (epoch : ℕ) (g : Granted). g.epoch) 0 (earlier ++ latest) (grant ∷ []) ∙ sym (same ∙ here));
        tells = λ none.
            let one : length (latest ++ grant ∷ []) ≡ length latest + 1 = omega (arith, length-append latest (grant ∷ [])) in
            rw (apart, ended, same, one) (seen-more (map plain_named old.ended.items) old.latest (length latest) (earlier ++ latest) grant
            (tells (sym gap ∙ none)) (sym here));
      }

-- ---- which of the latest grants have a client or a name that is there before

module _ (k : ℕ) (earlier latest : List Granted) (below : AllByRecursion (λ x. x.epoch < k) earlier)
    (here : AllByRecursion (λ x. x.epoch ≡ k) latest) (i : ℕ) (g : Granted) (there : slice_get latest i ≡ Some g) where
  within : i < length latest
  within = slice_get_within latest i g there

  own : get_or latest i g ≡ g
  own = get_or_from_slice_get latest i g g there

  epoch : g.epoch ≡ k
  epoch = ap (λ (x : Granted). x.epoch) (sym own)
      ∙ All-get_or (λ (x : Granted). x.epoch ≡ k) latest i g within (All-from_recursion (λ (x : Granted). x.epoch ≡ k) latest here)

  these : of_epoch g.epoch (earlier ++ take i latest) ≡ take i latest
  these = ap (λ (e : ℕ). of_epoch e (earlier ++ take i latest)) epoch
      ∙ of-latest k earlier (take i latest) below (recursion_from_All (λ (x : Granted). x.epoch ≡ k) (take i latest)
      (All-take (λ (x : Granted). x.epoch ≡ k) i latest
      (All-from_recursion (λ (x : Granted). x.epoch ≡ k) latest here)))

  as_far : length (take i latest) ≡ i
  as_far = length-take-le i latest (omega (arith, within))

  value : (f : Granted → ℕ) → get_or (map f latest) i 0 ≡ f g
  value f = get_or-map f latest i g 0 within ∙ ap f own

  single : (f : Granted → ℕ) → (IsRepeat (map f latest) i → ⊥) → list_any (λ x. f g == f x) (take i latest) ≡ false
  single f none = list_any_none (λ x. f g == f x) (take i latest)
      (All-from_get_or (λ (x : Granted). (f g == f x) ≡ false) (take i latest) g (λ q h.
      let less : q < i = omega (arith, h, as_far) in
      ne_eqb (f g) (f (get_or (take i latest) q g)) (λ e.
      none (
        q,
        less,
        get_or-map f latest q g 0 (omega (arith, less, within)) ∙ ap f (sym (get_or-take i latest q g less)) ∙ sym e
            ∙ sym (value f),
      ))))

  double : (f : Granted → ℕ) → IsRepeat (map f latest) i → list_any (λ x. f g == f x) (take i latest) ≡ true
  double f (q, less, e) = list_any_at (λ x. f g == f x) (take i latest) q g (omega (arith, less, as_far))
      (eq-eqb (f g) (f (get_or (take i latest) q g)) (sym (value f) ∙ sym e ∙ get_or-map f latest q g 0 (omega (arith, less, within))
      ∙ ap f (sym (get_or-take i latest q g less))))

  pub calm : (IsRepeat (map (λ x. x.client) latest) i → ⊥) → (IsRepeat (map (λ x. x.name) latest) i → ⊥)
      → twice_cause (earlier ++ take i latest) g ≡ None
  unfolding twice_cause
  calm client name = rw these (rw (single (λ x. x.client) client, single (λ x. x.name) name) refl)

  pub by-client : IsRepeat (map (λ x. x.client) latest) i → twice_cause (earlier ++ take i latest) g ≡ Some cause.DuplicateClient
  unfolding twice_cause
  by-client client = rw these (rw (double (λ x. x.client) client) refl)

  pub by-name : (IsRepeat (map (λ x. x.client) latest) i → ⊥) → IsRepeat (map (λ x. x.name) latest) i
      → twice_cause (earlier ++ take i latest) g ≡ Some cause.DuplicateName
  unfolding twice_cause
  by-name client name = rw these (rw (single (λ x. x.client) client, double (λ x. x.name) name) refl)

-- no place below the first repeat is one
not-before : (ns : List ℕ) (first : Option ℕ) (end : ℕ) → IsFirstRepeat ns first → end ≤ length ns → IfSome first (λ p. end ≤ p)
    → (i : ℕ) → i < end → IsRepeat ns i → ⊥
not-before ns None end none le far i h again = none i (omega (arith, h, le)) again
not-before ns (Some p) end (inside, is, first) le far i h again = first i (omega (arith, h, far)) again

pub nobody : Granted
nobody = record { epoch = 0; client = 0; name = 0 }

module _ (g : Granting) (earlier latest : List Granted) (held : HoldsGrants g earlier latest) where
  abbrev clients : List ℕ
  clients = map (λ (x : Granted). x.client) latest

  abbrev names : List ℕ
  names = map (λ (x : Granted). x.name) latest

  many_clients : length clients ≡ length latest
  many_clients = length-map latest (λ (x : Granted). x.client)

  many_names : length names ≡ length latest
  many_names = length-map latest (λ (x : Granted). x.name)

  fresh-below : (client name : Option ℕ) (end : ℕ) → IsFirstRepeat clients client → IsFirstRepeat names name → end ≤ length latest
      → IfSome client (λ p. end ≤ p) → IfSome name (λ p. end ≤ p) → AreFreshBefore earlier latest end
  fresh-below client name end c n le below-client below-name i x h there =
      calm g.latest earlier latest held.below held.here i x there
      (not-before clients client end c (omega (arith, le, many_clients)) below-client i h)
      (not-before names name end n (omega (arith, le, many_names)) below-name i h)

  pub all-fresh : IsFirstRepeat clients None → IsFirstRepeat names None → AreFresh earlier latest
  all-fresh c n = fresh-below None None (length latest) c n (omega arith) tt tt

  pub client-twice : (place : ℕ) (name : Option ℕ) → IsFirstRepeat clients (Some place) → IsFirstRepeat names name
      → IfSome name (λ p. place ≤ p) → IsTwice earlier latest (DuplicateClient (g.before + 1 + place))
  client-twice place name c n far =
      let inside : place < length latest = omega (arith, c.0, many_clients) in
      let there = slice_get-get_or latest place nobody inside in
      record {
        place = place;
        grant = get_or latest place nobody;
        cause = cause.DuplicateClient;
        there = there;
        fresh = fresh-below (Some place) name place c n (omega (arith, inside)) (omega arith) far;
        twice = by-client g.latest earlier latest held.below held.here place (get_or latest place nobody) there c.1;
        is = ap (λ (k : ℕ). DuplicateClient (k + 1 + place)) held.before;
      }

  pub name-twice : (place : ℕ) (client : Option ℕ) → IsFirstRepeat names (Some place) → IsFirstRepeat clients client
      → IfSome client (λ p. place < p) → IsTwice earlier latest (DuplicateName (g.before + 1 + place))
  name-twice place client n c far =
      let inside : place < length latest = omega (arith, n.0, many_names) in
      let there = slice_get-get_or latest place nobody inside in
      record {
        place = place;
        grant = get_or latest place nobody;
        cause = cause.DuplicateName;
        there = there;
        fresh = fresh-below client (Some place) place c n (omega (arith, inside)) (weaker client far) (omega arith);
        twice = by-name g.latest earlier latest held.below held.here place (get_or latest place nobody) there
            (not-before clients client (suc place) c (omega (arith, inside, many_clients)) far place (omega arith)) n.1;
        is = ap (λ (k : ℕ). DuplicateName (k + 1 + place)) held.before;
      }
    where
      weaker : (client : Option ℕ) → IfSome client (λ p. place < p) → IfSome client (λ p. place ≤ p)
      weaker None far = tt
      weaker (Some p) far = omega (arith, far)

-- what the end of the latest epoch lacks
module _ (g : Granting) (earlier latest : List Granted) (held : HoldsGrants g earlier latest) (none : g.gap ≡ None) where
  these_latest : of_epoch g.latest (earlier ++ latest) ≡ latest
  these_latest = of-latest g.latest earlier latest held.below held.here

  pub gap-none : ((n : ℕ) → n < length latest → has_name n latest ≡ true) → IsGapBelow (g.latest + 1) (earlier ++ latest) None
  gap-none full e n lt lack = elim (leb_tells (suc e) g.latest) [
    | inl w ↦ (rw none at held.gap) e n (omega (arith, w.1)) lack
    | inr w ↦
        let here : e ≡ g.latest = omega (arith, w.1, lt) in
        let mine = subst (λ (l : List Granted). (n < length l) × (has_name n l ≡ false))
        (ap (λ (k : ℕ). of_epoch k (earlier ++ latest)) here ∙ these_latest) lack in
        let no : true ≡ false = sym (full n mine.0) ∙ mine.1 in
        cc no
  ]

  pub gap-some : (name : ℕ) → name < length latest → has_name name latest ≡ false → ((n : ℕ) → n < name → has_name n latest ≡ true)
      → IsGapBelow (g.latest + 1) (earlier ++ latest) (Some (record { epoch = g.latest; name = name }))
  gap-some name inside lacks least = record {
    below = omega arith;
    lacks = subst (λ (l : List Granted). (name < length l) × (has_name name l ≡ false)) (sym these_latest) (inside, lacks);
    first = λ e n lt lack. elim (leb_tells (suc e) g.latest) [
      | inl w ↦ absurd ((rw none at held.gap) e n (omega (arith, w.1)) lack)
      | inr w ↦ omega (arith, w.1)
    ];
    least = λ n lack. elim (leb_tells (suc n) name) [
      | inl w ↦
          let mine = subst (λ (l : List Granted). (n < length l) × (has_name n l ≡ false)) these_latest lack in
          let no : true ≡ false = sym (least n (omega (arith, w.1))) ∙ mine.1 in
          cc no
      | inr w ↦ omega (arith, w.1)
    ];
  }

pub is-none : {gap : Option Gap} → is_some gap ≡ false → gap ≡ None
is-none e = grind (arith, e)

pub no_gap : {g : Granting} {earlier latest : List Granted} → HoldsGrants g earlier latest
    → IsGapBelow (g.latest + 1) (earlier ++ latest) None → (e n : ℕ) → Lacks (earlier ++ latest) e n → ⊥
no_gap {g = g} {earlier = earlier} {latest = latest} held none e n lack =
    gap-further g.latest (e + g.latest + 1) (earlier ++ latest) None (omega arith) (up-to held) none e n
    (omega arith) lack
