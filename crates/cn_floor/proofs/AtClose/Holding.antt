-- The clients of a closed floor, put down at their names.
use Rattle.cn_floor.proofs.Common.{◌≡◌, ◌≢◌, ℕ, suc, ◌+◌, ◌<◌, ◌≤◌, inl, inr, cond, List, [], ◌∷◌, length, get_or, set, map, sym, refl, ap, ◌∙◌, subst, arith, length-set, IsPermutation, range_with_len, Grant, cases_eq, cases_lt, le-ltb, once_below, times, get_or-map, get_or-set_other, get_or-set_same, length-map, fill_by_all, IsEachBelow, at_most_once, once_each, times-member, times-two, ListsHolders}
use Rattle.std.proofs.lemmas.List.{get_or_default}
use Rattle.std.proofs.lemmas.List.Sorted.{IsPermutation-map, IsPermutation-sym}

module _ (grants : List Grant) (names : IsEachBelow (length grants) (map (λ (g : Grant). g.name) grants)) where
  abbrev all : List ℕ
  all = map (λ (g : Grant). g.name) grants

  name-at : (i : ℕ) (d : Grant) → i < length grants → get_or all i 0 ≡ (get_or grants i d).name
  name-at i d l = get_or-map (λ (g : Grant). g.name) grants i d 0 l

  long : length all ≡ length grants
  long = length-map grants (λ (g : Grant). g.name)

  -- each name is below the number of grants
  pub name-low : (i : ℕ) (d : Grant) → i < length grants → (get_or grants i d).name < length grants
  name-low i d l =
      let n : ℕ = (get_or grants i d).name in
      let there : 1 ≤ times (get_or all i 0) all = times-member all i (omega (arith, long)) in
      let here : 1 ≤ times n all = subst (λ (k : ℕ). 1 ≤ times k all) (name-at i d l) there in
      elim (cases_lt n (length grants)) [
        | inl low ↦ low
        | inr high ↦
            let none : ◌≡◌ {A = ℕ} (once_below (length grants) n) 0 = ap {B = ℕ} (λ b. cond b 1 0) (le-ltb n (length grants) high) in
            absurd (omega (arith, once_each (length grants) all names n))
      ]

  -- and no two grants have one
  names-distinct : (i j : ℕ) (d : Grant) → i < j → j < length grants → (get_or grants i d).name ≢ (get_or grants j d).name
  names-distinct i j d l h same =
      let twice = times-two all i j l (omega (arith, long)) (name-at i d (omega arith) ∙ same ∙ sym (name-at j d h)) in
      omega (arith, once_each (length grants) all names (get_or all j 0), at_most_once (length grants) (get_or all j 0))

  -- the clients of the first k grants stand at their names
  abbrev pub Stand : ℕ → List ℕ → Type 0
  Stand k holders = (length holders ≡ length grants)
      × ((j : ℕ) (d : Grant) → j < k → get_or holders (get_or grants j d).name 0 ≡ (get_or grants j d).client)

  pub one-more : (k : ℕ) (e : Grant) (holders : List ℕ) → k < length grants → Stand k holders
      → Stand (k + 1) (set holders (get_or grants k e).name (get_or grants k e).client)
  one-more k e holders l (whole, each) =
      let g : Grant = get_or grants k e in (
        length-set holders g.name g.client ∙ whole,
        λ j d h. elim (cases_eq j k) [
          | inl same ↦
              let its = ap (λ (i : ℕ). get_or grants i d) same ∙ get_or_default grants k d e l in
              ap (λ (x : Grant). get_or (set holders g.name g.client) x.name 0) its
              ∙ get_or-set_same holders g.name g.client 0 (omega (arith, name-low k e l)) ∙ sym (ap (λ (x : Grant). x.client) its)
          | inr other ↦
              let differ : (get_or grants j d).name ≢ g.name =
              λ same. names-distinct j k d (omega arith) l (same ∙ (λ i. (get_or_default grants k e d l i).name)) in
              get_or-set_other holders g.name (get_or grants j d).name g.client 0 differ ∙ each j d (omega arith)
        ],
      )

  -- the clients that were granted names, each as often
  pub all-stand : (holders : List ℕ) → Stand (length grants) holders → ListsHolders grants holders
  all-stand holders (whole, each) =
      let at : ℕ → ℕ = λ n. get_or holders n 0 in
      let in_order : holders ≡ map at (range_with_len 0 (length grants)) = fill_by_all at holders (length grants) 0 whole (λ k h. refl) in
      let clients : map at all ≡ map (λ (g : Grant). g.client) grants = same-lists grants (λ j d l. each j d l) in
      let moved = IsPermutation-map at (range_with_len 0 (length grants)) all names in
      record {
        all = whole;
        by_name = λ j d l. each j d l;
        own = IsPermutation-sym holders (map (λ (g : Grant). g.client) grants)
            (subst (λ (x : List ℕ × List ℕ). IsPermutation x.0 x.1) (λ i. (sym in_order i, clients i)) moved);
      }
    where
      same-lists : (gs : List Grant) → ((j : ℕ) (d : Grant) → j < length gs
          → get_or holders (get_or gs j d).name 0 ≡ (get_or gs j d).client)
          → map (λ n. get_or holders n 0) (map (λ (g : Grant). g.name) gs) ≡ map (λ (g : Grant). g.client) gs
      same-lists [] each = refl
      same-lists (g ∷ gs) each = λ i. each 0 g (omega arith) i ∷ same-lists gs (λ j d l. each (suc j) d (omega arith)) i
