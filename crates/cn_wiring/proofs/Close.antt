-- The exits of a plan.
use Rattle.cn_wiring.proofs.Common.{◌≡◌, ℕ, ◌+◌, ◌<◌, ◌≤◌, inl, inr, true, false, List, length, get_or, set, map, refl, ap, sym, ◌∙◌, arith, Option, Some, None, subst, is_none, cases_eq, eq-eqb, eqb-true, map-set, set-get_or, get_or-set_same, get_or-set_other, length-map, get_or-map, get_or_default, End, Balancer, Exit, when, times, Plan, passages, loose, Each, HasLevel, IsOrderly, Table, is_end, sum_at, Stands, LeadsOn, IsWellFormed, balancer_of, plan_of_table, EndsInOrder, HasDepth, MOST_ENDS, times-member, times-place, times-two, total-where-one, into-passages}
use Rattle.cn_wiring.proofs.Marks.{below_from-loose, ends_at-loose, loose_in}

at_most_one : (es : List (Option ℕ)) (w : ℕ) → loose_in es w ≤ 1
at_most_one es w = elim (is_none (get_or es w (Some 0))) as (λ t. when t 1 ≤ 1) [ true ↦ omega arith | false ↦ omega arith ]

-- where the exits are loose wires, all different
abbrev pub AreLooseOnce : List (Option ℕ) → List ℕ → Type 0
AreLooseOnce es ws = (w : ℕ) → times w ws ≤ when (is_none (get_or es w (Some 0))) 1

pub exit-below : (es : List (Option ℕ)) (ws : List ℕ) (i : ℕ) → AreLooseOnce es ws → i < length ws → get_or ws i 0 < length es
exit-below es ws i h k = below_from-loose es (get_or ws i 0) (let a = h (get_or ws i 0) in let b = times-member ws i k in omega arith)

-- the first i exits have their wires
pub record Closed (ends : List (Option ℕ)) (exits : List ℕ) (closed : List End) (i : ℕ) : Type 0 where
  pub plan : map balancer_of closed ≡ ends
  pub at_exits : (j : ℕ) → j < i → get_or closed (get_or exits j 0) (Balancer 0) ≡ Exit j

pub Closed-none : (ends : List (Option ℕ)) (exits : List ℕ) (closed : List End) → map balancer_of closed ≡ ends → Closed ends exits closed 0
Closed-none ends exits closed e = record { plan = e; at_exits = λ j l. absurd (omega arith) }

pub Closed-more : (ends : List (Option ℕ)) (exits : List ℕ) (closed : List End) (i : ℕ) → AreLooseOnce ends exits → i < length exits
    → Closed ends exits closed i
    → Closed ends exits (set closed (get_or exits i 0) (Exit i)) (i + 1)
Closed-more ends exits closed i h k c =
    let w : ℕ = get_or exits i 0 in
    let none = ends_at-loose ends w (let a = h w in let b = times-member exits i k in omega arith) in
    let same : set ends w None ≡ ends = rw (← none) (set-get_or ends w (Some 0)) in
    let n : length closed ≡ length ends = sym (length-map closed balancer_of) ∙ ap length c.plan in
    let here : w < length closed = let b = exit-below ends exits i h k in omega arith in
    record {
      plan = map-set balancer_of closed w (Exit i) ∙ ap (λ es. set es w None) c.plan ∙ same;
      at_exits = λ j l.
          elim (cases_eq j i) [
            | inl e ↦ rw e (get_or-set_same closed w (Exit i) (Balancer 0) here)
            | inr d ↦
                get_or-set_other closed w (get_or exits j 0) (Exit i) (Balancer 0)
                (λ e. let two = times-two exits j i (omega arith) k e in let a = h w in let m = at_most_one ends w in omega arith)
                ∙ c.at_exits j (omega arith)
          ];
    }

is-exit : (i : ℕ) (e : End) → is_end (Exit i) e ≡ true → e ≡ Exit i
is-exit i (Balancer b) q = absurd (cc)
is-exit i (Exit j) q = ap Exit (eqb-true j i q)

-- a table whose plan is d, and in which exits, all loose wires of d, end in order
module _ (t : Table) (d : Plan) (exits : List ℕ) (o : IsOrderly d) (plan : plan_of_table t ≡ d) (all : (w : ℕ) → times w exits ≡ loose d w)
    (order : EndsInOrder t exits) where
  ends-map : map balancer_of t.ends ≡ d.ends
  ends-map = ap (λ e. e.ends) plan

  wires : length t.ends ≡ length d.ends
  wires = sym (length-map t.ends balancer_of) ∙ ap length ends-map

  found : (u : ℕ) → u < length t.ends → balancer_of (get_or t.ends u (Balancer 0)) ≡ get_or d.ends u None
  found u h = sym (get_or-map balancer_of t.ends u (Balancer 0) None h) ∙ ap (λ es. get_or es u None) ends-map

  -- an exit's wire is the one that the list has
  only : (u i : ℕ) → u < length t.ends → get_or t.ends u (Balancer 0) ≡ Exit i → (i < length exits) × (u ≡ get_or exits i 0)
  only u i h e =
      let none : get_or d.ends u None ≡ None = sym (found u h) ∙ ap balancer_of e in
      let below : u < length d.ends = omega (arith, wires) in
      let none' : get_or d.ends u (Some 0) ≡ None = get_or_default d.ends u (Some 0) None below ∙ none in
      let one : loose d u ≡ 1 = rw none' in
      let r = times-place exits u (let a = all u in omega arith) in
      let same : get_or t.ends u (Balancer 0) ≡ Exit r.0 = rw r.2 at (order r.0 r.1) in
      let two : Exit i ≡ Exit r.0 = sym e ∙ same in
      let ij : i ≡ r.0 = cc in
      (omega (arith, r.1), rw ij (sym r.2))

  pub out-is : (i : ℕ) (f : ℕ → ℕ) → i < length exits → sum_at t (Exit i) f ≡ f (get_or exits i 0)
  out-is i f h =
      total-where-one (is_end (Exit i)) t.ends (get_or exits i 0) (Balancer 0) f
      (let b = exit-below d.ends exits i (λ w. let a = all w in omega arith) h in omega (arith, wires))
      (rw (order i h, eq-eqb i i refl))
      (λ u k q. (only u i k (is-exit i (get_or t.ends u (Balancer 0)) q)).1)

  entries-is : t.entries ≡ d.entries
  entries-is = ap (λ e. e.entries) plan

  balancers-is : t.balancers ≡ d.balancers
  balancers-is = ap (λ e. e.balancers) plan

  was : (u b : ℕ) → u < length t.ends → get_or t.ends u (Balancer 0) ≡ Balancer b → get_or d.ends u None ≡ Some b
  was u b h e = sym (found u h) ∙ ap balancer_of e

  into-is : (b : ℕ) (f : ℕ → ℕ) → sum_at t (Balancer b) f ≡ passages d b f
  into-is b f = sym (into-passages t b f) ∙ ap (λ e. passages e b f) plan

  pub closed-formed : (1 ≤ length exits) × (length exits ≤ MOST_ENDS) → t.width ≡ length exits → IsWellFormed t
  closed-formed count width = record {
    entries = let a = o.entries in (omega (arith, entries-is), omega (arith, entries-is));
    width = (omega arith, omega arith);
    balancers = let a = o.balancers in omega (arith, balancers-is);
    wires = let a = o.wires in omega (arith, wires, entries-is, balancers-is);
    stands = λ u h.
        elim (get_or t.ends u (Balancer 0)) as (λ e. get_or t.ends u (Balancer 0) ≡ e → Stands t e) [
          | Balancer b ↦ λ e. let a = (o.ends u b (was u b h e)).0 in omega (arith, balancers-is)
          | Exit i ↦ λ e. let a = (only u i h e).0 in omega arith
        ] refl;
    forward = λ u h.
        elim (get_or t.ends u (Balancer 0)) as (λ e. get_or t.ends u (Balancer 0) ≡ e → LeadsOn t u e) [
          | Balancer b ↦ λ e. let a = (o.ends u b (was u b h e)).1 in omega (arith, entries-is)
          | Exit i ↦ λ e. tt
        ] refl;
    degree = λ b h. rw (into-is b (λ _. 1)) (o.degree b (omega (arith, balancers-is)));
    exits = λ i h. out-is i (λ _. 1) (omega arith);
  }

  pub closed-depth : (n : ℕ) → Each (HasLevel d n) exits → HasDepth t n
  closed-depth n h i w k e =
      let r = only w i k e in
      let l : HasLevel d n w = h w (let m = times-member exits i r.0 in rw r.1 m) in
      subst (λ p. HasLevel p n w) (sym plan) l
