-- The full flows of a table are the flows of its plan. So one exists for all inputs, and is the only one.
use Rattle.cn_tables.proofs.Common.{◌≡◌, ℕ, ◌+◌, ◌*◌, ◌<◌, ◌↔◌, List, true, length, get_or, arith, length-map, eqb-true, Balancer, Exit, Agree, IsFlow, IsPath, Table, balancer_of, is_end, LeadsOn, IsWellFormed, IsFullFlow, plan_of_table}
use Rattle.cn_tables.proofs.PlanFlow.{flow-exists, flow-unique, paths}
use Rattle.cn_tables.proofs.Tables.{flow-plan, orderly-table, plan-flow}

-- a wire that ends at b is older than the outputs of b
pub older : (t : Table) → IsWellFormed t → (b u : ℕ) → u < length t.ends → is_end (Balancer b) (get_or t.ends u (Balancer 0)) ≡ true
    → u < t.entries + 2 * b
older t w b u k e =
    elim (get_or t.ends u (Balancer 0)) as (λ x. LeadsOn t u x → is_end (Balancer b) x ≡ true → u < t.entries + 2 * b)
    [ Balancer c ↦ λ l q. let s = eqb-true c b q in omega arith | Exit i ↦ λ l q. absurd (cc) ]
    (w.forward u k) e

pub full-flow-unique : (t : Table) → IsWellFormed t → (f g : ℕ → ℕ) → IsFullFlow t f → IsFullFlow t g → Agree t.entries f g
    → Agree (t.entries + 2 * t.balancers) f g
full-flow-unique t w f g p q h = flow-unique (plan_of_table t) (orderly-table t w) f g (flow-plan t f p) (flow-plan t g q) h

pub full-flow-exists : (t : Table) → IsWellFormed t → (x : ℕ → ℕ) → (f : ℕ → ℕ) × IsFullFlow t f × Agree t.entries f x
full-flow-exists t w x =
    let (f, flows, inputs) = flow-exists (plan_of_table t) (orderly-table t w) x in
    (f, plan-flow t f flows, inputs)

pub full-flow-draft : (t : Table) (f : ℕ → ℕ) → IsFullFlow t f ↔ IsFlow (plan_of_table t) f
full-flow-draft t f = (flow-plan t f, plan-flow t f)

pub full-flow-paths : (t : Table) → IsWellFormed t → (u : ℕ) → u < length t.ends → (us : List ℕ) × IsPath (plan_of_table t) u us
full-flow-paths t w u h = paths (plan_of_table t) (orderly-table t w) u (omega (arith, length-map t.ends balancer_of))
