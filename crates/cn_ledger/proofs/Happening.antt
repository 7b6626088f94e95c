-- The ledger after an event, where the event can happen, and worked ledgers.
use Rattle.cn_ledger.proofs.Common.{◌≡◌, ℕ, suc, ◌+◌, ◌-◌, ◌%◌, ◌<◌, ◌≤◌, ◌&&◌, eqb, length, arith, refl, nat_tests, name_of, when, sum-below-part, End, Balancer, Exit, Table, is_end, end_of, output_wire, Ledger, IsSound, Enters, Goes, Passes, Leaves, one_at, ap, sum_below, total_where, IsQuiescent, all_entered, empty_ledger}
use Rattle.cn_ledger.specs.WorkedNetworks.{two_wide}

pub standing-le-on : (t : Table) (l : Ledger) → IsSound t l → (u c : ℕ) → l.standing u c ≤ l.on u
standing-le-on t l sound u c =
    let (n, sums) = sound.clients u in
    omega (arith, sums (n + suc c) (omega arith), sum-below-part (n + suc c) c (l.standing u) (omega arith))

pub entering : (t : Table) (old : Ledger) (c u : ℕ) → u < t.entries → (new : Ledger) × Enters t old new c u
entering t old c u h = (
  record {
    entered = λ e. old.entered e + one_at u e;
    count = old.count;
    on = λ w. old.on w + one_at u w;
    standing = λ w d. old.standing w d + when (eqb u w && eqb c d) 1;
    given = old.given;
    granted = old.granted;
  },
  record {
    inside = h;
    entered = λ e. refl;
    count = λ end. refl;
    on = λ w. refl;
    standing = λ w d. refl;
    given = λ end n. refl;
    granted = λ d i v name. refl;
  },
)

-- the ledger after client c goes from wire u by its end
after : Ledger → ℕ → ℕ → End → (ℕ → ℕ) → (ℕ → ℕ → ℕ → ℕ → ℕ) → Ledger
after old c u end to granted = record {
  entered = old.entered;
  count = λ other. old.count other + when (is_end end other) 1;
  on = λ w. old.on w + to w - one_at u w;
  standing = λ w d. old.standing w d + when (eqb c d) (to w) - when (eqb u w && eqb c d) 1;
  given = λ other n. old.given other n + when (is_end end other && eqb (old.count end) n) 1;
  granted = granted;
}

-- what is taken off is there
taken-off : (u w : ℕ) (f : ℕ → ℕ) → 1 ≤ f u → one_at u w ≤ f w
taken-off u w f h = grind (arith, nat_tests)

taken-off-client : (u w c d : ℕ) (f : ℕ → ℕ → ℕ) → 1 ≤ f u c → when (eqb u w && eqb c d) 1 ≤ f w d
taken-off-client u w c d f h = grind (arith, nat_tests)

going : (t : Table) (old : Ledger) (c u : ℕ) (end : End) (to : ℕ → ℕ) (granted : ℕ → ℕ → ℕ → ℕ → ℕ)
    → u < length t.ends → end_of t u ≡ end → 1 ≤ old.standing u c → 1 ≤ old.on u → Goes t old (after old c u end to granted) c u end to
unfolding after
going t old c u end to granted h ends stands some = record {
  inside = h;
  ends = ends;
  entered = λ e. refl;
  count = λ other. refl;
  on = λ w. omega (arith, taken-off u w old.on some);
  standing = λ w d. omega (arith, taken-off-client u w c d old.standing stands);
  given = λ other n. refl;
}

pub passing-there : (t : Table) (old : Ledger) (c u b : ℕ) → u < length t.ends → end_of t u ≡ Balancer b → 1 ≤ old.standing u c
    → 1 ≤ old.on u → (new : Ledger) × Passes t old new c u b
unfolding after
passing-there t old c u b h ends stands some =
    let to : ℕ → ℕ = one_at (output_wire t b (old.count (Balancer b) % 2)) in (
      after old c u (Balancer b) to old.granted,
      record {
        goes = going t old c u (Balancer b) to old.granted h ends stands some;
        granted = λ d i v name. refl;
      },
    )

pub leaving-there : (t : Table) (old : Ledger) (c u i : ℕ) → u < length t.ends → end_of t u ≡ Exit i → 1 ≤ old.standing u c
    → 1 ≤ old.on u → (new : Ledger) × Leaves t old new c u i
unfolding after
leaving-there t old c u i h ends stands some =
    let granted : ℕ → ℕ → ℕ → ℕ → ℕ = λ d j v name. old.granted d j v name
    + when (eqb c d && (eqb i j && (eqb (old.count (Exit i)) v && eqb (name_of t.width i (old.count (Exit i))) name))) 1 in (
      after old c u (Exit i) (λ _. 0) granted,
      record {
        goes = going t old c u (Exit i) (λ _. 0) granted h ends stands some;
        granted = λ d j v name. refl;
      },
    )

pub passing : (t : Table) (old : Ledger) → IsSound t old → (c u b : ℕ) → u < length t.ends → end_of t u ≡ Balancer b → 1 ≤ old.standing u c
    → (new : Ledger) × Passes t old new c u b
passing t old sound c u b h ends stands = passing-there t old c u b h ends stands (omega (arith, standing-le-on t old sound u c))

pub leaving : (t : Table) (old : Ledger) → IsSound t old → (c u i : ℕ) → u < length t.ends → end_of t u ≡ Exit i → 1 ≤ old.standing u c
    → (new : Ledger) × Leaves t old new c u i
leaving t old sound c u i h ends stands = leaving-there t old c u i h ends stands (omega (arith, standing-le-on t old sound u c))

-- Worked ledgers.

module _ (a b c d e f : Ledger) (ea : Enters two_wide empty_ledger a 7 0) (eb : Enters two_wide a b 9 1) (pc : Passes two_wide b c 9 1 0)
    (pd : Passes two_wide c d 7 0 0) (le : Leaves two_wide d e 9 2 0) (lf : Leaves two_wide e f 7 3 1) where
  b0 : b.count (Balancer 0) ≡ 0
  b0 = omega (arith, eb.count (Balancer 0), ea.count (Balancer 0))

  c0 : c.count (Balancer 0) ≡ 1
  c0 = omega (arith, pc.goes.count (Balancer 0), b0)

  d0 : d.count (Exit 0) ≡ 0
  d0 = omega (arith, pd.goes.count (Exit 0), pc.goes.count (Exit 0), eb.count (Exit 0), ea.count (Exit 0))

  d1 : d.count (Exit 1) ≡ 0
  d1 = omega (arith, pd.goes.count (Exit 1), pc.goes.count (Exit 1), eb.count (Exit 1), ea.count (Exit 1))

  e1 : e.count (Exit 1) ≡ 0
  e1 = omega (arith, le.goes.count (Exit 1), d1)

  none : (q i v name : ℕ) → d.granted q i v name ≡ 0
  none q i v name = omega (arith, pd.granted q i v name, pc.granted q i v name, eb.granted q i v name, ea.granted q i v name)

  quiet : IsQuiescent two_wide f
  quiet u h =
      let first : one_at (output_wire two_wide 0 (b.count (Balancer 0) % 2)) u ≡ one_at 2 u =
      ap {B = ℕ} (λ n. one_at (output_wire two_wide 0 (n % 2)) u) b0 in
      let second : one_at (output_wire two_wide 0 (c.count (Balancer 0) % 2)) u ≡ one_at 3 u =
      ap {B = ℕ} (λ n. one_at (output_wire two_wide 0 (n % 2)) u) c0 in
      omega (arith, lf.goes.on u, le.goes.on u, pd.goes.on u, pc.goes.on u, eb.on u, ea.on u)

  two : all_entered two_wide f ≡ 2
  unfolding sum_below
  two = omega (
    arith,
    lf.goes.entered 0,
    le.goes.entered 0,
    pd.goes.entered 0,
    pc.goes.entered 0,
    eb.entered 0,
    ea.entered 0,
    lf.goes.entered 1,
    le.goes.entered 1,
    pd.goes.entered 1,
    pc.goes.entered 1,
    eb.entered 1,
    ea.entered 1,
  )

  one_left : f.count (Exit 0) ≡ 1
  one_left = omega (arith, lf.goes.count (Exit 0), le.goes.count (Exit 0), d0)

  other-left : f.count (Exit 1) ≡ 1
  other-left = omega (arith, lf.goes.count (Exit 1), e1)

  nine : f.granted 9 0 0 0 ≡ 1
  nine =
      let r : e.granted 9 0 0 0 ≡ d.granted 9 0 0 0 + 1 = rw d0 at (le.granted 9 0 0 0) in
      omega (arith, lf.granted 9 0 0 0, none 9 0 0 0)

  seven : f.granted 7 1 0 1 ≡ 1
  seven =
      let r : f.granted 7 1 0 1 ≡ e.granted 7 1 0 1 + 1 = rw e1 at (lf.granted 7 1 0 1) in
      omega (arith, le.granted 7 1 0 1, none 7 1 0 1)

  pub two_clients : IsQuiescent two_wide f × (all_entered two_wide f ≡ 2) × (f.count (Exit 0) ≡ 1) × (f.count (Exit 1) ≡ 1)
      × (f.granted 9 0 0 0 ≡ 1) × (f.granted 7 1 0 1 ≡ 1)
  two_clients = (quiet, two, one_left, other-left, nine, seven)

pub lost : IsSound two_wide (record empty_ledger { entered = one_at 0 }) → ⊥
unfolding total_where
lost sound = let s = sound.balanced (Balancer 0) (omega arith) in absurd (omega arith)

pub from_nowhere : (l : Ledger) → IsSound two_wide l → l.on 2 ≡ 0 → 1 ≤ l.standing 2 7 → ⊥
from_nowhere l sound none some = absurd (omega (arith, standing-le-on two_wide l sound 2 7))

-- what the laws say
pub ruleset event_laws = (entering, passing, leaving, standing-le-on)
