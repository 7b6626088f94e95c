-- Numbers whose occurrences were sorted: where one stands at an earlier place, and which are missing.
use Rattle.cn_texts.proofs.Common.{◌≡◌, ◌<◌, ◌≤◌, ◌+◌, ◌-◌, ℕ, List, [], ◌∷◌, ◌++◌, true, false, Option, Some, None, length, get_or, refl, arith, suc, zero, sym, ap, ◌∙◌, inl, inr, map, subst, ◌⊎◌, All, nat_eq, range_with_len, All-get_or, get_or-map, length-map, ne_eqb, eq-eqb, leb_tells, nat_tests, IfSome, MatchOption, All-from_get_or, list_any_at, list_any_none, All-permutation, IsPermutation-map, length_permutation, list_any-IsPermutation, ranks_by, sorted_far, times, times-inside, times-order, times-place, times-two, IsFirstRepeat, IsRepeat, has_number, numbers_of, occurrences_from, Occurrence}
use Rattle.std.specs.List.Sorted.{IsPermutation, IsSorted, IsStrictlyIncreasing}
use Rattle.std.specs.Ordering.{is_lt, nat_cmp, ordering_then}
use Rattle.std.proofs.lemmas.Cmp.{nat_cmp_total, on_total, then_total}
use Rattle.std.specs.Cmp.{IsStrictWeakOrder}
use Rattle.std.proofs.lemmas.Bool.{cases_order}
use Rattle.std.proofs.lemmas.List.Kept.{AllPairs-from_increasing}
use Rattle.std.proofs.lemmas.Option.{same_Some}

-- ---- occurrences in order

abbrev pub occurrence : ℕ → ℕ → Occurrence
occurrence number place = record { number = number; place = place }

pub no-occurrences : (k : ℕ) → [] ≡ occurrences_from k []
unfolding occurrences_from
no-occurrences k = refl

pub length-occurrences : (k : ℕ) (ns : List ℕ) → length (occurrences_from k ns) ≡ length ns
unfolding occurrences_from
length-occurrences k [] = refl
length-occurrences k (n ∷ ns) = omega (arith, length-occurrences (k + 1) ns)

pub numbers-occurrences : (k : ℕ) (ns : List ℕ) → numbers_of (occurrences_from k ns) ≡ ns
unfolding occurrences_from
numbers-occurrences k [] = refl
numbers-occurrences k (n ∷ ns) = ap (λ (l : List ℕ). n ∷ l) (numbers-occurrences (k + 1) ns)

places-occurrences : (k : ℕ) (ns : List ℕ) → map (λ (o : Occurrence). o.place) (occurrences_from k ns) ≡ range_with_len k (length ns)
unfolding occurrences_from
places-occurrences k [] = refl
places-occurrences k (n ∷ ns) = ap (λ (l : List ℕ). k ∷ l) (places-occurrences (k + 1) ns)

pub occurrences-more : (k : ℕ) (ns : List ℕ) (n : ℕ)
    → occurrences_from k (ns ++ n ∷ []) ≡ occurrences_from k ns ++ occurrence n (k + length ns) ∷ []
unfolding occurrences_from
occurrences-more k [] n = ap (λ (p : ℕ). occurrence n p ∷ []) (let same : k ≡ k + 0 = omega arith in same)
occurrences-more k (m ∷ ns) n =
    ap (λ (l : List Occurrence). occurrence m k ∷ l) (occurrences-more (k + 1) ns n
    ∙ ap (λ (p : ℕ). occurrences_from (k + 1) ns ++ occurrence n p ∷ [])
    (let same : k + 1 + length ns ≡ k + length (m ∷ ns) = omega arith in same))

-- each has the number that stands at its place
occurrence-at : (k : ℕ) (ns : List ℕ) (i : ℕ) (d : Occurrence) → i < length ns
    → get_or (occurrences_from k ns) i d ≡ occurrence (get_or ns i 0) (k + i)
unfolding occurrences_from
occurrence-at k [] i d h = absurd (omega (arith, h))
occurrence-at k (n ∷ ns) zero d h = ap (λ (p : ℕ). occurrence n p) (let same : k ≡ k + 0 = omega arith in same)
occurrence-at k (n ∷ ns) (suc i) d h = occurrence-at (k + 1) ns i d (omega (arith, h))
    ∙ ap (λ (p : ℕ). occurrence (get_or ns i 0) p) (let same : k + 1 + i ≡ k + suc i = omega arith in same)

IsPlaced : List ℕ → Occurrence → Type 0
IsPlaced ns o = (o.place < length ns) × (get_or ns o.place 0 ≡ o.number)

all-placed : (ns : List ℕ) → All (IsPlaced ns) (occurrences_from 0 ns)
unfolding IsPlaced
all-placed ns = All-from_get_or (IsPlaced ns) (occurrences_from 0 ns) (occurrence 0 0) (λ i h.
    let within : i < length ns = omega (arith, h, length-occurrences 0 ns) in
    let same : 0 + i ≡ i = omega arith in
    subst (λ (o : Occurrence). (o.place < length ns) × (get_or ns o.place 0 ≡ o.number))
    (sym (occurrence-at 0 ns i (occurrence 0 0) within ∙ ap (λ (p : ℕ). occurrence (get_or ns i 0) p) same)) (within, refl))

-- ---- the order: by number, and those of one number by place

ordered : IsStrictWeakOrder (λ (x y : Occurrence). is_lt (ordering_then (nat_cmp x.number y.number) (nat_cmp x.place y.place)))
ordered = ranks_by
    (then_total (on_total (λ (o : Occurrence). o.number) nat_cmp_total) (on_total (λ (o : Occurrence). o.place) nat_cmp_total)) (λ o. o)

step : (a b p q : ℕ) → is_lt (ordering_then (nat_cmp b a) (nat_cmp q p)) ≡ false → (a < b) ⊎ ((a ≡ b) × (p ≤ q))
step a b p q h = grind (arith, nat_tests, h)

-- ---- the first place whose number stands at an earlier one

-- the number and the place of the occurrence at an index
abbrev pub number_at : List Occurrence → ℕ → ℕ
number_at s k = (get_or s k (occurrence 0 0)).number

abbrev pub place_at : List Occurrence → ℕ → ℕ
place_at s k = (get_or s k (occurrence 0 0)).place

-- the one at this index has the number of the one before it
abbrev pub IsAgain : List Occurrence → ℕ → Type 0
IsAgain s b = (0 < b) × (number_at s (b - 1) ≡ number_at s b)

-- the least place of those below an index that do
pub record IsSeen (s : List Occurrence) (at : ℕ) (first : Option ℕ) : Type 0 where
  pub found : IfSome first (λ place. (b : ℕ) × (b < length s) × IsAgain s b × (place_at s b ≡ place))
  pub least : (b : ℕ) → b < at → IsAgain s b → MatchOption first ⊥ (λ place. place ≤ place_at s b)

pub seen-first : (s : List Occurrence) → IsSeen s 1 None
seen-first s = record { found = tt; least = λ b h again. omega (arith, h, again.0) }

cut : (b at : ℕ) → b < at + 1 → (b < at) ⊎ (b ≡ at)
cut b at h = elim (leb_tells (suc b) at) [ inl w ↦ inl (omega (arith, w.1)) | inr w ↦ inr (omega (arith, w.1, h)) ]

-- one index more, which does not
pub seen-other : {s : List Occurrence} {at : ℕ} {first : Option ℕ} → IsSeen s at first
    → (number_at s (at - 1) ≡ number_at s at → ⊥)
    → IsSeen s (at + 1) first
seen-other {s = s} {at = at} seen other = record {
  found = seen.found;
  least = λ b h again.
      elim (cut b at h) [ inl k ↦ seen.least b k again | inr is ↦ absurd (other (subst (IsAgain s) is again).1) ];
}

-- one index more, which does
pub seen-again : {s : List Occurrence} {at : ℕ} (first : Option ℕ) {place : ℕ} → IsSeen s at first → at < length s
    → IsAgain s at
    → place ≤ place_at s at → IfSome first (λ other. place ≤ other) → (place ≡ place_at s at) ⊎ (first ≡ Some place)
    → IsSeen s (at + 1) (Some place)
seen-again {s = s} {at = at} None seen inside again low lower one = record {
  found = elim one [ inl is ↦ (at, inside, again, sym is) | inr is ↦ cc is ];
  least = λ c k same.
      elim (cut c at k) [ inl l ↦ absurd (seen.least c l same) | inr here ↦ omega (arith, low, ap (place_at s) here) ];
}
seen-again {s = s} {at = at} (Some other) seen inside again low lower one = record {
  found = elim one [
    | inl here ↦ (at, inside, again, sym here)
    | inr e ↦
        let (b, h, was, is) = seen.found in
        (b, h, was, is ∙ same_Some _ _ e)
  ];
  least = λ c k same. elim (cut c at k) [
    | inl l ↦ omega (arith, seen.least c l same, lower)
    | inr here ↦ omega (arith, low, ap (place_at s) here)
  ];
}

-- at the end
pub seen-all : {s : List Occurrence} {at : ℕ} {first : Option ℕ} → IsSeen s at first → length s ≤ at
    → IsSeen s (length s) first
seen-all seen past = record { found = seen.found; least = λ b h. seen.least b (omega (arith, h, past)) }

module _ (ns : List ℕ) (s : List Occurrence) (order : IsPermutation (occurrences_from 0 ns) s)
    (sorted : IsSorted (λ (x y : Occurrence). ordering_then (nat_cmp x.number y.number) (nat_cmp x.place y.place)) s) where
  as-many : length s ≡ length ns
  as-many = length_permutation (occurrences_from 0 ns) s order ∙ length-occurrences 0 ns

  in-turn : (i j : ℕ) → i ≤ j → j < length s
      → (number_at s i < number_at s j) ⊎ ((number_at s i ≡ number_at s j) × (place_at s i ≤ place_at s j))
  in-turn i j le h = step (number_at s i) (number_at s j) (place_at s i) (place_at s j)
      (sorted_far (λ (x y : Occurrence). is_lt (ordering_then (nat_cmp x.number y.number) (nat_cmp x.place y.place))) ordered s sorted i j
      (occurrence 0 0) le h)

  never-falls : (i j : ℕ) → i ≤ j → j < length s → number_at s i ≤ number_at s j
  never-falls i j le h = elim (in-turn i j le h) [ inl less ↦ omega (arith, less) | inr same ↦ omega (arith, same.0) ]

  placed : (i : ℕ) → i < length s → (place_at s i < length ns) × (get_or ns (place_at s i) 0 ≡ number_at s i)
  unfolding IsPlaced
  placed i h = All-get_or (IsPlaced ns) s i (occurrence 0 0) h
      (All-permutation (IsPlaced ns) (occurrences_from 0 ns) s order (all-placed ns))

  places : (p : ℕ) → p < length ns → times p (map (λ (o : Occurrence). o.place) s) ≡ 1
  places p h =
      times-order (map (λ (o : Occurrence). o.place) (occurrences_from 0 ns)) (map (λ (o : Occurrence). o.place) s) p
      (IsPermutation-map (λ (o : Occurrence). o.place) (occurrences_from 0 ns) s order)
      ∙ ap (times p) (places-occurrences 0 ns) ∙ times-inside p 0 (length ns) (omega arith) (omega (arith, h))

  at_index : (i : ℕ) → i < length s → get_or (map (λ (o : Occurrence). o.place) s) i 0 ≡ place_at s i
  at_index i h = get_or-map (λ (o : Occurrence). o.place) s i (occurrence 0 0) 0 h

  apart : (i j : ℕ) → i < j → j < length s → place_at s i ≡ place_at s j → ⊥
  apart i j less h e =
      let size = length-map s (λ (o : Occurrence). o.place) in
      let same : get_or (map (λ (o : Occurrence). o.place) s) i 0 ≡ get_or (map (λ (o : Occurrence). o.place) s) j 0 =
      at_index i (omega (arith, less, h)) ∙ e ∙ sym (at_index j h) in
      omega (
        arith,
        times-two (map (λ (o : Occurrence). o.place) s) i j less (omega (arith, h, size)) same,
        places (place_at s j) (placed j h).0,
        ap (λ (p : ℕ). times p (map (λ (o : Occurrence). o.place) s)) (at_index j h),
      )

  find : (p : ℕ) → p < length ns → (i : ℕ) × (i < length s) × (place_at s i ≡ p) × (number_at s i ≡ get_or ns p 0)
  find p h =
      let (i, within, is) = times-place (map (λ (o : Occurrence). o.place) s) p (omega (arith, places p h)) in
      let inside : i < length s = omega (arith, within, length-map s (λ (o : Occurrence). o.place)) in
      let here : place_at s i ≡ p = sym (at_index i inside) ∙ is in
      (i, inside, here, sym (placed i inside).1 ∙ ap (λ (q : ℕ). get_or ns q 0) here)

  -- a place whose number stands at an earlier one is found
  complete : (p : ℕ) → p < length ns → IsRepeat ns p → (b : ℕ) × (b < length s) × IsAgain s b × (place_at s b ≡ p)
  complete p h (q, less, e) =
      let (i, i-in, i-is, i-number) = find q (omega (arith, less, h)) in
      let (j, j-in, j-is, j-number) = find p h in
      let same : number_at s i ≡ number_at s j = i-number ∙ e ∙ sym j-number in
      elim (leb_tells (suc i) j) [
        | inl w ↦
            let first = never-falls i (j - 1) (omega (arith, w.1)) (omega (arith, j-in)) in
            let last = never-falls (j - 1) j (omega arith) j-in in
            (j, j-in, (omega (arith, w.1), omega (arith, first, last, same)), j-is)
        | inr w ↦ elim (in-turn j i (omega (arith, w.1)) i-in) [
          | inl more ↦ absurd (omega (arith, more, same))
          | inr turn ↦ absurd (omega (arith, turn.1, i-is, j-is, less))
        ]
      ]

  -- and no other
  sound : (b : ℕ) → b < length s → IsAgain s b → (place_at s b < length ns) × IsRepeat ns (place_at s b)
  sound b h (some, e) =
      let before : b - 1 < b = omega (arith, some) in
      let (within, here) = placed b h in
      let there = (placed (b - 1) (omega (arith, h))).1 in
      let less = elim (leb_tells (suc (place_at s (b - 1))) (place_at s b)) as
      (λ _. place_at s (b - 1) < place_at s b) [
        | inl w ↦ w.1
        | inr w ↦ elim (in-turn (b - 1) b (omega arith) h) [
          | inl more ↦ absurd (omega (arith, more, e))
          | inr turn ↦ absurd (apart (b - 1) b before h (omega (arith, w.1, turn.1)))
        ]
      ] in
      (within, (place_at s (b - 1), less, there ∙ e ∙ sym here))

  pub repeat-first : (first : Option ℕ) → IsSeen s (length s) first → IsFirstRepeat ns first
  repeat-first None seen = λ place h again. let (b, k, is, here) = complete place h again in seen.least b k is
  repeat-first (Some place) seen = let (b, h, again, is) = seen.found in (
    omega (arith, (sound b h again).0, is),
    subst (IsRepeat ns) is (sound b h again).1,
    λ p less other.
        let (c, k, was, here) = complete p (omega (arith, less, (sound b h again).0, is)) other in
        omega (arith, seen.least c k was, here, less),
  )

  pub none-rising : IsSeen s (length s) None → IsStrictlyIncreasing (numbers_of s)
  none-rising seen = λ k h.
      let size = length-map s (λ (o : Occurrence). o.number) in
      let here = get_or-map (λ (o : Occurrence). o.number) s k (occurrence 0 0) 0 (omega (arith, h, size)) in
      let there = get_or-map (λ (o : Occurrence). o.number) s (k + 1) (occurrence 0 0) 0 (omega (arith, h, size)) in
      let before : k + 1 - 1 ≡ k = omega arith in
      elim (in-turn k (k + 1) (omega arith) (omega (arith, h, size))) [
        | inl less ↦ omega (arith, less, here, there)
        | inr same ↦ absurd (seen.least (k + 1) (omega (arith, h, size))
            (omega arith, ap (number_at s) before ∙ same.0))
      ]

-- ---- the least number that is missing

-- where the first of rising numbers differs from its index the index is missing
pub missing-there : (ns : List ℕ) → IsStrictlyIncreasing ns → (at : ℕ) → at < length ns
    → ((k : ℕ) → k < at → get_or ns k 0 ≡ k) → (get_or ns at 0 ≡ at → ⊥) → has_number ns at ≡ false
missing-there ns rising at h all other =
    list_any_none (nat_eq at) ns (All-from_get_or (λ (n : ℕ). nat_eq at n ≡ false) ns 0
    (λ i k. ne_eqb at (get_or ns i 0) (apart i k)))
  where
    above : at < get_or ns at 0
    above = elim (leb_tells 1 at) [
      | inl w ↦
          let before = AllPairs-from_increasing ns rising (at - 1) at 0 (omega (arith, w.1)) h in
          omega (arith, w.1, all (at - 1) (omega (arith, w.1)), before, other)
      | inr w ↦ omega (arith, w.1, other)
    ]

    apart : (i : ℕ) → i < length ns → at ≡ get_or ns i 0 → ⊥
    apart i k e = elim (cases_order i at) [
      | inl same ↦ omega (arith, e, above, ap (λ (n : ℕ). get_or ns n 0) same)
      | inr (inl less) ↦ omega (arith, e, all i less, less)
      | inr (inr more) ↦ omega (arith, e, above, AllPairs-from_increasing ns rising at i 0 more k)
    ]

-- numbers that are their own indexes are there
pub own-there : (ns : List ℕ) (at : ℕ) → at ≤ length ns → ((k : ℕ) → k < at → get_or ns k 0 ≡ k) → (n : ℕ) → n < at
    → has_number ns n ≡ true
own-there ns at le all n h = list_any_at (nat_eq n) ns n 0 (omega (arith, le, h)) (eq-eqb n (get_or ns n 0) (sym (all n h)))

pub own-more : (ns : List ℕ) (at : ℕ) → ((k : ℕ) → k < at → get_or ns k 0 ≡ k) → get_or ns at 0 ≡ at → (k : ℕ) → k < at + 1
    → get_or ns k 0 ≡ k
own-more ns at all here k h = elim (cut k at h) [
  | inl less ↦ all k less
  | inr is ↦ ap (λ (j : ℕ). get_or ns j 0) is ∙ here ∙ sym is
]

-- an order of the occurrences has the same numbers
pub same-numbers : (xs ys : List Occurrence) → IsPermutation xs ys → (n : ℕ) → has_number (numbers_of ys) n ≡ has_number (numbers_of xs) n
same-numbers xs ys order n = sym (list_any-IsPermutation (nat_eq n) (numbers_of xs) (numbers_of ys)
    (IsPermutation-map (λ (o : Occurrence). o.number) xs ys order))
