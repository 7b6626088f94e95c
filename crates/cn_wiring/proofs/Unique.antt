-- A plan with its exits in order has one table.
use Rattle.cn_wiring.proofs.Common.{◌≡◌, ℕ, ◌<◌, List, length, get_or, map, refl, sym, ap, ◌∙◌, subst, arith, None, true, eq-eqb, ext_get_or, get_or-map, get_or_past, length-map, total-where-parts, End, Balancer, Exit, IsTableOf, Plan, Table, IsWellFormed, Stands, balancer_of, end_of, is_end, plan_of_table, from-balancer}

-- a wire that ends at an exit is one of the table
ends-there : (t : Table) (u i : ℕ) → end_of t u ≡ Exit i → u < length t.ends
ends-there t u i e = grind (arith, get_or_past t.ends u (Balancer 0))

-- two wires of a table that end at one exit are one wire
one-wire : (t : Table) → IsWellFormed t → (i u v : ℕ) → i < t.width → u < length t.ends → v < length t.ends → end_of t u ≡ Exit i
    → end_of t v ≡ Exit i → u ≡ v
one-wire t w i u v h k l a b =
    let here : is_end (Exit i) (end_of t u) ≡ true = rw a (eq-eqb i i refl) in
    let there : is_end (Exit i) (end_of t v) ≡ true = rw b (eq-eqb i i refl) in
    grind (arith, w.exits i h, total-where-parts (is_end (Exit i)) t.ends (Balancer 0) (λ _. 1) u v k l)

module _ {t s : Table} {made : Plan × List ℕ} (w : IsWellFormed t) (v : IsWellFormed s) (a : IsTableOf t made) (b : IsTableOf s made) where
  plans : plan_of_table t ≡ plan_of_table s
  plans = a.plan ∙ sym b.plan

  balancers-alike : map balancer_of t.ends ≡ map balancer_of s.ends
  balancers-alike = ap (λ p. p.ends) plans

  lengths : length t.ends ≡ length s.ends
  lengths = sym (length-map t.ends balancer_of) ∙ ap length balancers-alike ∙ length-map s.ends balancer_of

  alike : (u : ℕ) → u < length t.ends → balancer_of (end_of t u) ≡ balancer_of (end_of s u)
  alike u h =
      sym (get_or-map balancer_of t.ends u (Balancer 0) None h)
      ∙ ap (λ es. get_or es u None) balancers-alike
      ∙ get_or-map balancer_of s.ends u (Balancer 0) None (omega (arith, lengths))

  same_end : (u : ℕ) → u < length t.ends → end_of t u ≡ end_of s u
  same_end u h = by (end_of t u) refl
    where
      by : (e : End) → end_of t u ≡ e → end_of t u ≡ end_of s u
      by (Balancer c) e = e ∙ sym (from-balancer (end_of s u) c (sym (alike u h) ∙ ap balancer_of e))
      by (Exit i) e =
          let at : i < t.width = subst (Stands t) e (w.stands u h) in
          let listed : i < length made.1 = omega (arith, at, a.width) in
          let wire : ℕ = get_or made.1 i 0 in
          let here : end_of t wire ≡ Exit i = a.exits i listed in
          let there : end_of s wire ≡ Exit i = b.exits i listed in
          let same : u ≡ wire = one-wire t w i u wire at h (ends-there t wire i here) e here in
          rw same (here ∙ sym there)

  pub same_table : t ≡ s
  same_table =
      let ends : t.ends ≡ s.ends = ext_get_or (Balancer 0) t.ends s.ends lengths same_end in
      let wide : t.width ≡ s.width = a.width ∙ sym b.width in
      λ x. record { entries = (plans x).entries; width = wide x; balancers = (plans x).balancers; ends = ends x }
