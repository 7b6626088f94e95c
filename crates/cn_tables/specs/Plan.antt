-- Networks in the making: balancing networks, wire by wire (Aspnes, Herlihy, Shavit, Counting Networks, JACM 1994,
-- section 2.1).
use Rattle.std.specs.Prelude.{◌≡◌, ℕ, ◌+◌, ◌*◌, ◌<◌, ◌≤◌, ◌==◌, ◌⊎◌, Bool, false, List, [], ◌∷◌, length, Option, Some, None, is_none, slice_index_or, slice_set, replicate, ◌++◌}
use Rattle.cn_spec.specs.declared.limits.TheConstants.{MOST_BALANCERS, MOST_ENDS}
use Rattle.cn_spec.specs.Step.{half}
use Rattle.cn_spec.specs.Sums.{total_where, times, when}

-- A plan of wires and balancers. Wires 0 to entries - 1 are the entries, and wire entries + 2 * b + p
-- is output p of balancer b. Each wire ends at a balancer, or is loose.
pub record Plan : Type 0 where
  pub entries : ℕ
  pub balancers : ℕ
  pub ends : List (Option ℕ)

-- output p of balancer b
abbrev pub output : Plan → ℕ → ℕ → ℕ
output d b p = d.entries + 2 * b + p

-- the first wire that the plan does not have yet
abbrev pub next_wire : Plan → ℕ
next_wire d = d.entries + 2 * d.balancers

-- a plan of so many entries, all loose, and no balancer
abbrev pub entries_alone : ℕ → Plan
entries_alone n = record { entries = n; balancers = 0; ends = replicate n None }

-- does a wire with this end stand at balancer b?
abbrev pub ends_at : ℕ → Option ℕ → Bool
ends_at b (Some c) = c == b
ends_at b None = false

-- the passages of balancer b: the sum over the wires that end there
abbrev pub passages : Plan → ℕ → (ℕ → ℕ) → ℕ
passages d b f = total_where (ends_at b) d.ends f

-- the ends, of which those of the wires ws are at balancer b
abbrev pub ending_at : List (Option ℕ) → List ℕ → ℕ → List (Option ℕ)
ending_at ends [] b = ends
ending_at ends (w ∷ ws) b = ending_at (slice_set ends w (Some b)) ws b

-- the plan with its next balancer, at which the wires ws end, and whose outputs are loose
abbrev pub with_balancer : Plan → List ℕ → Plan
with_balancer d ws = record {
  entries = d.entries;
  balancers = d.balancers + 1;
  ends = ending_at d.ends ws d.balancers ++ None ∷ None ∷ [];
}

-- f gives each output of each balancer its half of the balancer's passages
abbrev pub IsFlow : Plan → (ℕ → ℕ) → Type 0
IsFlow d f =
    (b : ℕ) → b < d.balancers → (f (output d b 0) ≡ half (passages d b f) 0)
    × (f (output d b 1) ≡ half (passages d b f) 1)

-- a plan within the limits, in which wires lead forward, and one or two wires end at each balancer
pub record IsOrderly (d : Plan) : Type 0 where
  pub entries : (1 ≤ d.entries) × (d.entries ≤ MOST_ENDS)
  pub balancers : d.balancers ≤ MOST_BALANCERS
  pub wires : length d.ends ≡ d.entries + 2 * d.balancers
  pub ends : (u b : ℕ) → slice_index_or d.ends u None ≡ Some b → (b < d.balancers) × (u < output d b 0)
  pub degree : (b : ℕ) → b < d.balancers → (1 ≤ passages d b (λ _. 1)) × (passages d b (λ _. 1) ≤ 2)

-- 1 if wire w is loose, and otherwise 0
abbrev pub loose : Plan → ℕ → ℕ
loose d w = when (is_none (slice_index_or d.ends w (Some 0))) 1

-- the wires stand in the plan, all loose and all different
abbrev pub AllLoose : Plan → List ℕ → Type 0
AllLoose d ws = (w : ℕ) → times w ws ≤ loose d w

-- wire w is an output of the balancer at which u ends
abbrev pub Feeds : Plan → ℕ → ℕ → Type 0
Feeds d u w = (b : ℕ) × (slice_index_or d.ends u None ≡ Some b) × ((w ≡ output d b 0) ⊎ (w ≡ output d b 1))

-- a path from an entry to wire w, by the wires before w, the last first
abbrev pub IsPath : Plan → ℕ → List ℕ → Type 0
IsPath d w [] = w < d.entries
IsPath d w (u ∷ us) = Feeds d u w × IsPath d u us

-- each path to wire w passes n balancers
abbrev pub HasLevel : Plan → ℕ → ℕ → Type 0
HasLevel d n w = (us : List ℕ) → IsPath d w us → length us ≡ n

-- P of each of the wires ws
abbrev pub Each : (ℕ → Type 0) → List ℕ → Type 0
Each P ws = (w : ℕ) → 1 ≤ times w ws → P w

-- what a part of a network that is built over the loose wires ins, with the new loose wires outs, does to a plan
pub record Builds (old new : Plan) (ins outs : List ℕ) (depth size : ℕ) : Type 0 where
  -- it adds balancers
  pub entries : new.entries ≡ old.entries
  pub balancers : new.balancers ≡ old.balancers + size
  pub wires : length new.ends ≡ length old.ends + 2 * size
  -- ins cease to be loose, and outs are loose
  pub loosed : (w : ℕ) → loose new w + times w ins ≡ loose old w + times w outs
  -- each flow of the new plan is one of the old
  pub flow : (f : ℕ → ℕ) → IsFlow new f → IsFlow old f
  -- each older wire keeps its level, and outs have the level of ins and depth more
  pub kept : (n w : ℕ) → w < length old.ends → HasLevel old n w → HasLevel new n w
  pub level : (n : ℕ) → Each (HasLevel old n) ins → Each (HasLevel new (n + depth)) outs
