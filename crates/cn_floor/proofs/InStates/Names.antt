-- In each state no name stands twice in a lane.
use Rattle.cn_floor.proofs.Common.{◌≡◌, ℕ, ◌+◌, ◌<◌, ◌≤◌, ◌&&◌, inl, inr, Bool, cond, eqb, List, length, get_or, map, sym, refl, ap, ◌∙◌, arith, Grant, Ledger, Start, View, base, cases_lt, eq-eqb, get_elem?, granted_in, nat_tests, some, times, get_or-map, length-map, get_or-le-sum_by, sum-by-same, times-map, times-place, granted-once, names-differ, ledger_at, FloorState, KeepsRule}
use Rattle.cn_floor.proofs.InStates.Totals.{part-le}

pub no-grant : Grant
no-grant = record { client = 0; exit = 0; visit = 0; name = 0 }

-- one test for four
all-tests : (a b c d e f g h i j : ℕ) → (a ≡ b → (c ≡ d) × (e ≡ f) × (g ≡ h)) → (a ≡ b → i ≡ j) → (i ≡ j → a ≡ b)
    → eqb a b ≡ (eqb c d && (eqb e f && (eqb g h && eqb i j)))
all-tests a b c d e f g h i j to last from = grind (arith, nat_tests)

module _ (start : Start) (s : FloorState) (kept : KeepsRule start s) (id : ℕ) (v : View) (at : get_elem? s.views id ≡ some v) where
  abbrev l : Ledger
  l = ledger_at start s

  abbrev m : ℕ
  m = base start

  abbrev grant : ℕ → Grant
  grant j = get_or v.grants j no-grant

  -- whether a grant is that of another
  abbrev is_same : Grant → Grant → Bool
  is_same g x = eqb x.client g.client && (eqb x.exit g.exit && (eqb x.visit g.visit && eqb (x.name + m) (g.name + m)))

  -- each grant of the lane is in the ledger
  pub made : (j : ℕ) → j < length v.grants → 1 ≤ l.granted (grant j).client (grant j).exit (grant j).visit ((grant j).name + m)
  made j low =
      let g : Grant = grant j in
      let one : ◌≡◌ {A = ℕ} (cond (is_same g g) 1 0) 1 =
      rw (eq-eqb g.client g.client refl, eq-eqb g.exit g.exit refl, eq-eqb g.visit g.visit refl, eq-eqb (g.name + m) (g.name + m) refl)
      refl in
      omega (
        arith,
        get_or-le-sum_by (λ x. cond (is_same g x) 1 0) v.grants j no-grant low,
        part-le (granted_in m g.client g.exit g.visit (g.name + m)) s.views id v at,
      )

  -- what has a grant's name is that grant
  named-alike : (j k name : ℕ) → j < length v.grants → k < length v.grants → (grant j).name ≡ name
      → eqb (grant k).name name ≡ is_same (grant j) (grant k)
  named-alike j k name low less is =
      let g : Grant = grant j in
      let x : Grant = grant k in
      all-tests x.name name x.client g.client x.exit g.exit x.visit g.visit (x.name + m) (g.name + m)
      (λ e. names-differ start.network.table l kept.sound x.client g.client x.exit g.exit x.visit g.visit (x.name + m) (g.name + m)
      (made k less) (made j low) (omega (arith, e, is))) (λ e. omega (arith, e, is)) (λ e. omega (arith, e, is))

  pub names-once : (name : ℕ) → times name (map (λ (g : Grant). g.name) v.grants) ≤ 1
  names-once name = elim (cases_lt 0 (times name (map (λ (g : Grant). g.name) v.grants))) [
    | inr low ↦ omega (arith, low)
    | inl high ↦
        let names : List ℕ = map (λ (g : Grant). g.name) v.grants in
        let (j, low, is) = times-place names name (omega (arith, high)) in
        let less : j < length v.grants = omega (arith, low, length-map v.grants (λ (g : Grant). g.name)) in
        let g : Grant = grant j in
        let its : g.name ≡ name = sym (get_or-map (λ (x : Grant). x.name) v.grants j no-grant 0 less) ∙ is in
        let same : times name names ≡ granted_in m g.client g.exit g.visit (g.name + m) v =
        times-map (λ (x : Grant). x.name) name v.grants
        ∙ sum-by-same (λ (x : Grant). cond (eqb x.name name) 1 0) (λ (x : Grant). cond (is_same g x) 1 0) v.grants no-grant
        (λ k h. ap {B = ℕ} (λ b. cond b 1 0) (named-alike j k name less h its)) in
        omega (
          arith,
          same,
          part-le (granted_in m g.client g.exit g.visit (g.name + m)) s.views id v at,
          granted-once start.network.table l kept.sound g.client g.exit g.visit (g.name + m) (made j less),
        )
  ]
