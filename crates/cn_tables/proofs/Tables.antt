-- A well-formed table as a plan.
use Rattle.cn_tables.proofs.Common.{◌≡◌, ℕ, ◌+◌, ◌*◌, ◌<◌, inl, inr, length, get_or, map, refl, ap, sym, ◌∙◌, arith, Some, None, subst, add-zero, cases_lt, get_or-map, get_or_past, length-map, End, Balancer, Exit, IsFlow, ends_at, passages, IsOrderly, Table, IsWellFormed, IsFullFlow, Stands, LeadsOn, is_end, sum_at, end_of, balancer_of, plan_of_table, total-where-map, total-where-tests}

same_test : (b : ℕ) (e : End) → ends_at b (balancer_of e) ≡ is_end (Balancer b) e
same_test b (Balancer c) = refl
same_test b (Exit i) = refl

pub into-passages : (t : Table) (b : ℕ) (f : ℕ → ℕ) → passages (plan_of_table t) b f ≡ sum_at t (Balancer b) f
into-passages t b f = total-where-map (ends_at b) balancer_of t.ends f ∙ total-where-tests _ (is_end (Balancer b)) t.ends f (same_test b)

pub flow-plan : (t : Table) (f : ℕ → ℕ) → IsFullFlow t f → IsFlow (plan_of_table t) f
flow-plan t f p b h =
    let q = p b h in
    rw (into-passages t b f, add-zero) q

pub from-balancer : (e : End) (b : ℕ) → balancer_of e ≡ Some b → e ≡ Balancer b
from-balancer (Balancer c) b e = let s : c ≡ b = cc in ap Balancer s
from-balancer (Exit i) b e = absurd (cc)

pub plan-flow : (t : Table) (f : ℕ → ℕ) → IsFlow (plan_of_table t) f → IsFullFlow t f
plan-flow t f p b h = rw (into-passages t b f, add-zero) at (p b h)

module _ (t : Table) (w : IsWellFormed t) where
  pub ahead : (u b : ℕ) → u < length t.ends → end_of t u ≡ Balancer b → (u < t.entries + 2 * b) × (b < t.balancers)
  ahead u b h e = (subst (LeadsOn t u) e (w.forward u h), subst (Stands t) e (w.stands u h))

  -- the plan of the table is orderly
  end-plan : (u b : ℕ) → get_or (map balancer_of t.ends) u None ≡ Some b → (u < length t.ends) × (end_of t u ≡ Balancer b)
  end-plan u b e =
      elim (cases_lt u (length t.ends)) [
        | inl h ↦ (h, from-balancer (end_of t u) b (sym (get_or-map balancer_of t.ends u (Balancer 0) None h) ∙ e))
        | inr g ↦
            let past : get_or (map balancer_of t.ends) u None ≡ None =
            get_or_past (map balancer_of t.ends) u None (omega (arith, length-map t.ends balancer_of)) in
            let no : None ≡ Some b = sym past ∙ e in absurd (cc)
      ]

  pub orderly-table : IsOrderly (plan_of_table t)
  orderly-table = record {
    entries = w.entries;
    balancers = w.balancers;
    wires = length-map t.ends balancer_of ∙ w.wires;
    ends = λ u b e. let (h, at) = end-plan u b e in let (before, there) = ahead u b h at in (there, omega arith);
    degree = λ b h. rw (into-passages t b (λ _. 1)) (w.degree b h);
  }
