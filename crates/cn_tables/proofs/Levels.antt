-- Each wire of a counting network has one level.
use Rattle.cn_tables.proofs.Common.{◌≡◌, ℕ, zero, suc, ◌+◌, ◌-◌, ◌*◌, ◌<◌, ◌≤◌, ◌⊎◌, inl, inr, List, [], ◌∷◌, length, get_or, map, refl, ap, sym, ◌∙◌, arith, Some, None, cases_lt, get_or-map, length-map, End, Balancer, Exit, Feeds, IsPath, HasLevel, Table, IsWellFormed, end_of, balancer_of, plan_of_table, HasDepth}
use Rattle.cn_tables.specs.Levels.{CountsPaths, IsLevel}
use Rattle.cn_tables.proofs.PlanFlow.{paths}
use Rattle.cn_tables.proofs.Tables.{ahead, orderly-table}

module _ (t : Table) (w : IsWellFormed t) where
  -- the plan's end of a wire that ends at b
  plan-end : (u b : ℕ) → u < length t.ends → end_of t u ≡ Balancer b → get_or (map balancer_of t.ends) u None ≡ Some b
  plan-end u b h e = get_or-map balancer_of t.ends u (Balancer 0) None h ∙ ap balancer_of e

  feeds : (u b x : ℕ) → u < length t.ends → end_of t u ≡ Balancer b → (x ≡ t.entries + 2 * b) ⊎ (x ≡ t.entries + 2 * b + 1)
      → Feeds (plan_of_table t) u x
  feeds u b x h e (inl q) = (b, plan-end u b h e, inl (omega arith))
  feeds u b x h e (inr q) = (b, plan-end u b h e, inr (omega arith))

  path-to : (x : ℕ) → x < length t.ends → (us : List ℕ) × IsPath (plan_of_table t) x us
  path-to x h = paths (plan_of_table t) (orderly-table t w) x (omega (arith, length-map t.ends balancer_of))

  module _ (n : ℕ) (deep : HasDepth t n) where
    -- from each wire there is a way on to an exit, of one length for all paths that come there
    onward : (fuel x : ℕ) → x < length t.ends → length t.ends ≤ x + fuel
        → (k : ℕ) × ((us : List ℕ) → IsPath (plan_of_table t) x us → length us + k ≡ n)
    onward zero x h f = absurd (omega arith)
    onward (suc fuel) x h f = by (end_of t x) refl (λ y l m. onward fuel y l m)
      where
        by : (end : End) → end_of t x ≡ end → ((y : ℕ) → y < length t.ends → length t.ends ≤ y + fuel
            → (k : ℕ) × ((us : List ℕ) → IsPath (plan_of_table t) y us → length us + k ≡ n))
            → (k : ℕ) × ((us : List ℕ) → IsPath (plan_of_table t) x us → length us + k ≡ n)
        by (Exit i) e rest = (0, λ us p. omega (arith, deep i x h e us p))
        by (Balancer b) e rest =
            let (before, there) = ahead t w x b h e in
            let (k, all) = rest (t.entries + 2 * b) (omega (arith, w.wires)) (omega arith) in
            (suc k, λ us p. omega (arith, all (x ∷ us) (feeds x b (t.entries + 2 * b) h e (inl refl), p)))

    level_by : (x : ℕ) → (x < length t.ends) ⊎ (length t.ends ≤ x) → ℕ
    level_by x (inl h) = n - (onward (length t.ends) x h (omega arith)).0
    level_by x (inr _) = 0

    level : ℕ → ℕ
    level x = level_by x (cases_lt x (length t.ends))

    level_by-paths : (x : ℕ) (where_is : (x < length t.ends) ⊎ (length t.ends ≤ x)) → x < length t.ends
        → HasLevel (plan_of_table t) (level_by x where_is) x
    unfolding level_by
    level_by-paths x (inl k) h us p = omega (arith, (onward (length t.ends) x k (omega arith)).1 us p)
    level_by-paths x (inr k) h us p = absurd (omega arith)

    -- each path to a wire passes as many balancers as its level
    level-paths : (x : ℕ) → x < length t.ends → HasLevel (plan_of_table t) (level x) x
    unfolding level
    level-paths x h = level_by-paths x (cases_lt x (length t.ends)) h

    pub path-levels : (lv : ℕ → ℕ) × IsLevel t n lv × CountsPaths t lv
    path-levels = (
      level,
      record {
        entry = λ u h. let k : u < length t.ends = omega (arith, w.wires) in sym (level-paths u k [] h);
        output = λ u b p h e few.
            let (before, there) = ahead t w u b h e in
            let (us, path) = path-to u h in
            let in_range : t.entries + 2 * b + p < length t.ends = omega (arith, w.wires) in
            let here = level-paths u h us path in
            let next = level-paths (t.entries + 2 * b + p) in_range (u ∷ us)
            (feeds u b (t.entries + 2 * b + p) h e (zero-or-one (t.entries + 2 * b) p few), path) in
            omega arith;
        exit = λ u i h e. let (us, path) = path-to u h in sym (level-paths u h us path) ∙ deep i u h e us path;
      },
      level-paths,
    )
      where
        zero-or-one : (m p : ℕ) → p < 2 → (m + p ≡ m) ⊎ (m + p ≡ m + 1)
        zero-or-one m p h = grind arith

    pub levels : (lv : ℕ → ℕ) × IsLevel t n lv
    levels = let (lv, is, _) = path-levels in (lv, is)
