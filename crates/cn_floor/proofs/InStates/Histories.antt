-- Histories: each goes on by events, and leads from a sound ledger to a sound one; in which order names are granted.
use Rattle.cn_floor.proofs.Common.{ℕ, List, [], ◌∷◌, subst, Balancer, End, Exit, IsSound, IsWellFormed, Ledger, Start, Table, end_of, Enter, Event, GoesFrom, Happens, LeadsTo, Step, IsReached, sound-enters, sound-leaves, sound-passes, ◌≤◌, ap, arith, Network, IsNetwork, all_entered, between, tight, sum-below-le, IsQuiescentlyConsistent, ◌≡◌, zero, suc, ◌+◌, ◌++◌, length, get_or, refl, sym, length-append, IsMoveOf, Moved, On, Out, Enters, EnterInTurn, GoInTurn}

-- one event more
pub reached-by : (start : Start) (event : Event) (old new : Ledger) → IsReached start old → Happens start.network.table event old new
    → IsReached start new
unfolding LeadsTo
reached-by start event old new (history, leads) happens = (event ∷ history, (old, leads, happens))

module _ (t : Table) (formed : IsWellFormed t) where
  pub sound-goes : (end : End) (old new : Ledger) (client wire : ℕ) → GoesFrom t old new client wire end → IsSound t old → IsSound t new
  sound-goes (Balancer b) old new client wire goes sound = sound-passes t old new client wire b goes sound
  sound-goes (Exit i) old new client wire goes sound = sound-leaves t formed old new client wire i goes sound

  pub sound-led : (history : List Event) (old new : Ledger) → LeadsTo t history old new → IsSound t old → IsSound t new
  unfolding LeadsTo
  sound-led [] old new leads sound = subst (IsSound t) leads sound
  sound-led (Enter client entry ∷ history) old new leads sound =
      sound-enters t leads.0 new client entry leads.2 (sound-led history old leads.0 leads.1 sound)
  sound-led (Step client wire ∷ history) old new leads sound =
      sound-goes (end_of t wire) leads.0 new client wire leads.2 (sound-led history old leads.0 leads.1 sound)

-- In which order names are granted.

-- what grows from one ledger to a later one
pub record Grows (t : Table) (old new : Ledger) : Type 0 where
  pub came : all_entered t old ≤ all_entered t new
  pub kept : (c i v name : ℕ) → old.granted c i v name ≤ new.granted c i v name

module _ (t : Table) where
  goes-grow : (end : End) (old new : Ledger) (client wire : ℕ) → GoesFrom t old new client wire end → Grows t old new
  goes-grow (Balancer b) old new client wire goes = record {
    came = sum-below-le t.entries old.entered new.entered (λ u l. omega (arith, goes.goes.entered u));
    kept = λ c i v name. omega (arith, goes.granted c i v name);
  }
  goes-grow (Exit i) old new client wire goes = record {
    came = sum-below-le t.entries old.entered new.entered (λ u l. omega (arith, goes.goes.entered u));
    kept = λ c j v name. omega (arith, goes.granted c j v name);
  }

  grow-on : (a b c : Ledger) → Grows t a b → Grows t b c → Grows t a c
  grow-on a b c p q = record {
    came = omega (arith, p.came, q.came);
    kept = λ d i v name. omega (arith, p.kept d i v name, q.kept d i v name);
  }

  pub led-grow : (history : List Event) (old new : Ledger) → LeadsTo t history old new → Grows t old new
  unfolding LeadsTo
  led-grow [] old new same = record {
    came = omega (arith, ap (all_entered t) same);
    kept = λ c i v name. omega (arith, ap (λ (l : Ledger). l.granted c i v name) same);
  }
  led-grow (Enter client entry ∷ history) old new leads = grow-on old leads.0 new (led-grow history old leads.0 leads.1)
      record {
        came = sum-below-le t.entries leads.0.entered new.entered (λ u l. omega (arith, leads.2.entered u));
        kept = λ c i v name. omega (arith, leads.2.granted c i v name);
      }
  led-grow (Step client wire ∷ history) old new leads = grow-on old leads.0 new (led-grow history old leads.0 leads.1)
      (goes-grow (end_of t wire) leads.0 new client wire leads.2)

pub consistent : (network : Network) (begin : Ledger) → IsNetwork network → IsSound network.table begin
    → IsQuiescentlyConsistent network.table begin
consistent network begin net sound before after quiet later to on first last =
    let t = network.table in
    let was = sound-led t net.formed before begin quiet to sound in
    let is = sound-led t net.formed after quiet later on was in
    let grow = led-grow t after quiet later on in
    between t quiet later (tight t net.formed net.counts quiet was first) (tight t net.formed net.counts later is last) grow.kept grow.came

-- What happens goes on by each step.

module _ (t : Table) where
  -- ---- histories

  pub led-none : (l : Ledger) → LeadsTo t [] l l
  unfolding LeadsTo
  led-none l = refl

  pub led-on : (before after : List Event) (l m n : Ledger) → LeadsTo t before l m → LeadsTo t after m n → LeadsTo t (after ++ before) l n
  unfolding LeadsTo
  led-on before [] l m n first same = subst (λ (x : Ledger). LeadsTo t before l x) same first
  led-on before (event ∷ after) l m n first (between, rest, happens) =
      (between, led-on before after l m between first rest, happens)

  -- so many events lead from the one ledger to the other
  abbrev pub More : Ledger → Ledger → ℕ → Type 0
  More l m n = (events : List Event) × (length events ≡ n) × LeadsTo t events l m

  pub more-enter : (l m : Ledger) (client entry : ℕ) → Enters t l m client entry → More l m 1
  unfolding LeadsTo
  more-enter l m client entry enters = (Enter client entry ∷ [], refl, (l, refl, enters))

  ends-there : (end : End) (l m : Ledger) (client wire : ℕ) → GoesFrom t l m client wire end → end_of t wire ≡ end
  ends-there (Balancer b) l m client wire goes = goes.goes.ends
  ends-there (Exit i) l m client wire goes = goes.goes.ends

  more-go : (end : End) (l m : Ledger) (client wire : ℕ) → GoesFrom t l m client wire end → More l m 1
  unfolding LeadsTo
  more-go end l m client wire goes = (
    Step client wire ∷ [],
    refl,
    (l, refl, subst (GoesFrom t l m client wire) (sym (ends-there end l m client wire goes)) goes),
  )

  pub more-move : (base : ℕ) (l m : Ledger) (client : ℕ) (answer : Moved) → IsMoveOf t base l m client answer → More l m 1
  more-move base l m client (On b n wire) (from, passes, number, output) = more-go (Balancer b) l m client from passes
  more-move base l m client (Out i v name) (from, leaves, visit, named) = more-go (Exit i) l m client from leaves

  more-none : (l m : Ledger) → l ≡ m → More l m 0
  unfolding LeadsTo
  more-none l m same = ([], refl, same)

  -- one event, and then others
  more-on : (l m n : Ledger) (k : ℕ) → More l m 1 → More m n k → More l n (suc k)
  more-on l m n k (first, one, leads) (then, more, lead) =
      (then ++ first, omega (arith, length-append then first, one, more), led-on first then l m n leads lead)

  pub more-list : (clients : List ℕ) (entry place n : ℕ) (l m : Ledger) → EnterInTurn t clients entry place n l m → More l m n
  unfolding EnterInTurn
  more-list clients entry place zero l m same = more-none l m same
  more-list clients entry place (suc n) l m (between, enters, rest) =
      more-on l between m n (more-enter l between (get_or clients place 0) entry enters)
      (more-list clients entry (suc place) n between m rest)

  pub more-sweep : (wire : ℕ) (end : End) (n : ℕ) (tokens : List (ℕ × ℕ)) (l m : Ledger) → GoInTurn t wire end n tokens l m
      → More l m (length tokens)
  unfolding GoInTurn
  more-sweep wire end n [] l m same = more-none l m same
  more-sweep wire end n (e ∷ rest) l m (between, goes, number, on) =
      more-on l between m (length rest) (more-go end l between e.1 wire goes) (more-sweep wire end (n + 1) rest between m on)
