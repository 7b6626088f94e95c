-- Tables of wire ends: networks of balancers (Aspnes, Herlihy, Shavit, Counting Networks, JACM 1994, section 2.1).
use Rattle.std.specs.Prelude.{◌≡◌, ℕ, ◌+◌, ◌*◌, ◌<◌, ◌≤◌, ◌==◌, Bool, false, List, length, map, slice_index_or, Option, Some, None}
use Rattle.cn_tables.specs.declared.end.End.{End}
use Rattle.cn_tables.specs.declared.end.End.TheVariants.{Balancer, Exit}
use Rattle.cn_spec.specs.Step.{half}
use Rattle.cn_spec.specs.Sums.{total_where}
use Rattle.cn_spec.specs.declared.limits.TheConstants.{MOST_BALANCERS, MOST_ENDS}
use Rattle.cn_tables.specs.Plan.{Plan, HasLevel}

-- A table of wire ends. Wires 0 to entries - 1 are the entries, and wire entries + 2 * b + p is output p of
-- balancer b. Wire u ends at the member of ends at place u.
pub record Table : Type 0 where
  pub entries : ℕ
  pub width : ℕ
  pub balancers : ℕ
  pub ends : List End

-- the table of these numbers and ends
abbrev pub table_with : ℕ → ℕ → ℕ → List End → Table
table_with entries width balancers ends =
    record { entries = entries; width = width; balancers = balancers; ends = ends }

-- where wire u ends
abbrev pub end_of : Table → ℕ → End
end_of t u = slice_index_or t.ends u (Balancer 0)

-- output p of balancer b
abbrev pub output_wire : Table → ℕ → ℕ → ℕ
output_wire t b p = t.entries + 2 * b + p

-- is it this end?
abbrev pub is_end : End → End → Bool
is_end (Balancer b) (Balancer c) = c == b
is_end (Balancer b) (Exit i) = false
is_end (Exit i) (Balancer b) = false
is_end (Exit i) (Exit j) = j == i

-- the sum of f over the wires with this end
abbrev pub sum_at : Table → End → (ℕ → ℕ) → ℕ
sum_at t end f = total_where (is_end end) t.ends f

-- the balancer or the exit of an end is in the table
abbrev pub Stands : Table → End → Type 0
Stands t (Balancer b) = b < t.balancers
Stands t (Exit i) = i < t.width

-- an end at a balancer of which the wire is no output, and no output of a later one
abbrev pub LeadsOn : Table → ℕ → End → Type 0
LeadsOn t u (Balancer b) = u < t.entries + 2 * b
LeadsOn t u (Exit i) = Unit {0}

-- a network of balancers: within the limits, each wire leads on, one or two wires end at each balancer, one at each
-- exit
pub record IsWellFormed (t : Table) : Type 0 where
  pub entries : (1 ≤ t.entries) × (t.entries ≤ MOST_ENDS)
  pub width : (1 ≤ t.width) × (t.width ≤ MOST_ENDS)
  pub balancers : t.balancers ≤ MOST_BALANCERS
  pub wires : length t.ends ≡ t.entries + 2 * t.balancers
  pub stands : (u : ℕ) → u < length t.ends → Stands t (end_of t u)
  pub forward : (u : ℕ) → u < length t.ends → LeadsOn t u (end_of t u)
  pub degree : (b : ℕ) → b < t.balancers → (1 ≤ sum_at t (Balancer b) (λ _. 1)) × (sum_at t (Balancer b) (λ _. 1) ≤ 2)
  pub exits : (i : ℕ) → i < t.width → sum_at t (Exit i) (λ _. 1) ≡ 1

-- A full flow gives each wire a number, and each output of a balancer its half of what comes in: it is what passes in a
-- quiet state (section 2.1).
abbrev pub IsFullFlow : Table → (ℕ → ℕ) → Type 0
IsFullFlow t f =
    (b : ℕ) → b < t.balancers
    → (f (t.entries + 2 * b) ≡ half (sum_at t (Balancer b) f) 0)
    × (f (t.entries + 2 * b + 1) ≡ half (sum_at t (Balancer b) f) 1)

-- the balancer of an end, or none of an exit
abbrev pub balancer_of : End → Option ℕ
balancer_of (Balancer b) = Some b
balancer_of (Exit i) = None

-- the table as a plan, in which the wires that end at an exit are loose
abbrev pub plan_of_table : Table → Plan
plan_of_table t = record { entries = t.entries; balancers = t.balancers; ends = map balancer_of t.ends }

-- each path from an entry to an exit passes n balancers
abbrev pub HasDepth : Table → ℕ → Type 0
HasDepth t n = (i w : ℕ) → w < length t.ends → end_of t w ≡ Exit i → HasLevel (plan_of_table t) n w

-- wire ws i ends at exit i, for each i
abbrev pub EndsInOrder : Table → List ℕ → Type 0
EndsInOrder t ws = (i : ℕ) → i < length ws → end_of t (slice_index_or ws i 0) ≡ Exit i
