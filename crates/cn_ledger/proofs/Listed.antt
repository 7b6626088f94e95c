-- What is granted from one tight ledger to a later one, and the names of a list of these grants.
use Rattle.cn_ledger.proofs.Common.{◌≡◌, ℕ, ◌+◌, ◌/◌, ◌%◌, ◌<◌, ◌≤◌, true, cond, eqb, List, [], ◌∷◌, length, sum_by, get_or, map, refl, ap, ◌∙◌, arith, nat_tests, ne_eqb, IsEachBelow, once_below, when, each_below, sum-by-same, times-map, Table, Ledger, IsTight, all_entered}
use Rattle.std.specs.Prelude.{count_by}
use Rattle.std.proofs.lemmas.List.Sums.{get_or-le-sum_by, sum_by-cons}
use Rattle.cn_ledger.specs.Grants.{Grant, ListsGrants, is_grant}
use Rattle.cn_ledger.specs.Between.{GrantsBetween}

-- a grant is itself
is-itself : (base : ℕ) (g : Grant) → is_grant base g.client g.exit g.visit (g.name + base) g ≡ true
is-itself base g = grind (arith, nat_tests)

sum-by-none : (gs : List Grant) → sum_by (λ _. 0) gs ≡ 0
sum-by-none [] = refl
sum-by-none (g ∷ gs) = omega (arith, sum-by-none gs, sum_by-cons (λ (x : Grant). 0) g gs)

nobody : Grant
nobody = record { client = 0; exit = 0; visit = 0; name = 0 }

module _ (t : Table) (old new : Ledger) (grants : List Grant) (k : ℕ) (was : IsTight t old) (is : IsTight t new)
    (more : all_entered t new ≡ all_entered t old + k) (lists : ListsGrants (all_entered t old) old new grants) where
  abbrev base : ℕ
  base = all_entered t old

  -- each grant of the list was made
  made : (j : ℕ) → j < length grants → let g : Grant = get_or grants j nobody in 1 ≤ new.granted g.client g.exit g.visit (g.name + base)
  made j h =
      let g : Grant = get_or grants j nobody in
      let one : ◌≡◌ {A = ℕ} (cond (is_grant base g.client g.exit g.visit (g.name + base) g) 1 0) 1 =
      ap {B = ℕ} (λ b. cond b 1 0) (is-itself base g) in
      omega (
        arith,
        get_or-le-sum_by (λ x. cond (is_grant base g.client g.exit g.visit (g.name + base) x) 1 0) grants j nobody h,
        lists g.client g.exit g.visit (g.name + base),
      )

  -- nobody has a name beyond the last
  beyond : (n : ℕ) → k ≤ n → count_by (λ g. eqb g.name n) grants ≡ 0
  beyond n h =
      sum-by-same (λ (g : Grant). cond (eqb g.name n) 1 0) (λ _. 0) grants nobody (λ j l.
      let g : Grant = get_or grants j nobody in
      let low = (is.only g.client g.exit g.visit (g.name + base) (made j l)).0 in
      ap {B = ℕ} (λ b. cond b 1 0) (ne_eqb g.name n (λ e. omega arith)))
      ∙ sum-by-none grants

  -- a name below stands only in its holder's grant
  below : (n : ℕ) → n < k → count_by (λ g. eqb g.name n) grants ≡ 1
  below n h =
      let name : ℕ = n + base in
      let i : ℕ = name % t.width in
      let v : ℕ = name / t.width in
      let (c, held) = is.held name (omega arith) in
      let late : old.granted c i v name ≡ 0 = grind (arith, was.only c i v name) in
      let one : ◌≡◌ {A = ℕ} (when (eqb c c) 1) 1 = grind (arith, nat_tests) in
      let same : count_by (λ g. eqb g.name n) grants ≡ count_by (is_grant base c i v name) grants =
      sum-by-same (λ (g : Grant). cond (eqb g.name n) 1 0) (λ g. cond (is_grant base c i v name g) 1 0) grants nobody (λ j l.
      let g : Grant = get_or grants j nobody in
      let once = made j l in
      grind (arith, nat_tests, is.only g.client g.exit g.visit (g.name + base) once, held g.client)) in
      omega (arith, held c, lists c i v name)

  -- the granted names are the numbers below k, each once
  pub names-each : IsEachBelow k (map (λ g. g.name) grants)
  names-each = each_below k (map (λ g. g.name) grants) (λ n. times-map (λ (g : Grant). g.name) n grants ∙ at n)
    where
      at : (n : ℕ) → count_by (λ g. eqb g.name n) grants ≡ once_below k n
      at n = grind (arith, nat_tests, below n, beyond n)

-- What is granted from one tight ledger to a later one.

module _ (t : Table) (old new : Ledger) (was : IsTight t old) (is : IsTight t new)
    (kept : (c i v name : ℕ) → old.granted c i v name ≤ new.granted c i v name) where
  -- who had a name has no other grant of it
  early : (c i v name : ℕ) → name < all_entered t old → all_entered t old ≤ all_entered t new
      → new.granted c i v name ≤ old.granted c i v name
  early c i v name low more =
      let (d, had) = was.held name low in
      let (e, has) = is.held name (omega (arith, low, more)) in
      let still = kept d (name % t.width) (name / t.width) name in
      grind (arith, nat_tests, is.only c i v name, had c, has c, had d, has d)

  pub between : all_entered t old ≤ all_entered t new → GrantsBetween t old new
  between more = record {
    kept = kept;
    each = λ name high low.
        let (c, has) = is.held name low in (
          c,
          λ d.
              let none : old.granted d (name % t.width) (name / t.width) name ≡ 0 =
              grind (arith, was.only d (name % t.width) (name / t.width) name) in
              omega (arith, none, has d),
        );
    only = λ c i v name grew. (
      grind (arith, early c i v name),
      (is.only c i v name (omega (arith, grew))).0,
    );
  }

-- what the laws say
pub ruleset grant_laws = (names-each)
