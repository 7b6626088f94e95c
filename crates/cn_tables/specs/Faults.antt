-- What can be wrong with a table of wire ends, in the order in which it is reported.
use Rattle.std.specs.Prelude.{◌≡◌, ℕ, ◌+◌, ◌*◌, ◌<◌, ◌≤◌, MatchOption, Option, length}
use Rattle.cn_spec.specs.declared.limits.TheConstants.{MOST_BALANCERS, MOST_ENDS}
use Rattle.cn_tables.specs.declared.end.End.TheVariants.{Balancer, Exit}
use Rattle.cn_tables.specs.declared.fault.WiringFault.{WiringFault}
use Rattle.cn_tables.specs.declared.fault.WiringFault.TheVariants.{Length, NoSuchEnd, Backward, InDegree, ExitCount, Memory}
use Rattle.cn_tables.specs.Table.{Table, LeadsOn, Stands, end_of, sum_at}

-- k is the first number below n at which P does not hold
abbrev pub IsFirst : ℕ → (ℕ → Type 0) → ℕ → Type 0
IsFirst n P k = (k < n) × (¬ P k) × ((m : ℕ) → m < k → P m)

-- the answer is the first number below n at which P does not hold, or none if P holds of all
abbrev pub IsFirstFailure : Option ℕ → ℕ → (ℕ → Type 0) → Type 0
IsFirstFailure answer n P = MatchOption answer ((k : ℕ) → k < n → P k) (IsFirst n P)

-- from least to most, both included
abbrev pub IsWithin : ℕ → ℕ → ℕ → Type 0
IsWithin least most n = (least ≤ n) × (n ≤ most)

-- the wire ends at a balancer or an exit of the table
abbrev pub EndStandsAt : Table → ℕ → Type 0
EndStandsAt t u = Stands t (end_of t u)

-- the wire is no output of the balancer at which it ends, and of no later one
abbrev pub LeadsOnAt : Table → ℕ → Type 0
LeadsOnAt t u = LeadsOn t u (end_of t u)

-- one or two wires end at balancer b
abbrev pub IsFed : Table → ℕ → Type 0
IsFed t b = IsWithin 1 2 (sum_at t (Balancer b) (λ _. 1))

-- one wire ends at exit i
abbrev pub HasOneWire : Table → ℕ → Type 0
HasOneWire t i = IsWithin 1 1 (sum_at t (Exit i) (λ _. 1))

-- the numbers are within the limits, and each wire has an end
pub record SizesFit (t : Table) : Type 0 where
  pub entries : (1 ≤ t.entries) × (t.entries ≤ MOST_ENDS)
  pub width : (1 ≤ t.width) × (t.width ≤ MOST_ENDS)
  pub balancers : t.balancers ≤ MOST_BALANCERS
  pub wires : length t.ends ≡ t.entries + 2 * t.balancers

-- and each of the ends is there,
pub record EndsStand (t : Table) : Type 0 where
  pub sizes : SizesFit t
  pub stand : (u : ℕ) → u < length t.ends → EndStandsAt t u

-- and no wire leads back,
pub record EndsLeadOn (t : Table) : Type 0 where
  pub stand : EndsStand t
  pub lead_on : (u : ℕ) → u < length t.ends → LeadsOnAt t u

-- and each balancer has its wires
pub record BalancersFed (t : Table) : Type 0 where
  pub lead_on : EndsLeadOn t
  pub fed : (b : ℕ) → b < t.balancers → IsFed t b

-- the fault stands, with the least number, and no earlier kind of fault does; want of memory is reported only if none
-- of the first three kinds stands
abbrev pub IsFault : Table → WiringFault → Type 0
IsFault t Length = ¬ SizesFit t
IsFault t (NoSuchEnd wire) = SizesFit t × IsFirst (length t.ends) (EndStandsAt t) wire
IsFault t (Backward wire) = EndsStand t × IsFirst (length t.ends) (LeadsOnAt t) wire
IsFault t (InDegree balancer) = EndsLeadOn t × IsFirst t.balancers (IsFed t) balancer
IsFault t (ExitCount exit) = BalancersFed t × IsFirst t.width (HasOneWire t) exit
IsFault t Memory = EndsLeadOn t
