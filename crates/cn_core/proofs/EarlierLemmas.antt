-- No two clients hold one name. Epochs that were accepted lead to a state, and so each exit let out its share.
use Rattle.cn_core.proofs.Common.{◌≡◌, ℕ, ◌+◌, ◌-◌, ◌%◌, ◌/◌, ◌<◌, ◌≤◌, inl, inr, List, [], ◌∷◌, length, refl, ap, arith, sym, ◌∙◌, Option, Some, nat_tests, Balancer, Carried, End, Enter, Event, Exit, Network, On, Position, Step, cases_eq, cases_lt, end_of, eq-eqb, name_of, ne_eqb, position_after, position_past, get_or_past, exit_of-name_of, name-below, IsNetwork, Table, Holds, HasOneHolder, end_at, steps_before, HasShares, Bool, true, false, subst, None, nat_le, if◌then◌else◌, is_some, IsCore, State, after_carry, carried_by, inside_in, position_in, share, start, state_after_enter, state_after_step, MOST_CARRIED, MOST_CLIENTS, NoSuchEntry, AlreadyIn, EpochFull, Entered, EnterRefused, Agrees, AreEpochs, ByHistories, IsHistory, enters_of, is_accepted, step_answer}
use Rattle.std.specs.Option.{option_map}
use Rattle.cn_core.proofs.StateLemmas.{stands-at}
use Rattle.cn_core.proofs.TightLemmas.{IsCore-after_carry, bounded-state, visits-after-carry}
use Rattle.cn_core.proofs.HistoryLemmas.{Agrees-after_carry, Agrees-start, Agrees-state_after_step, AgreesAfter-state_after_enter, inside-by_history, inside-or-named, after-step}
use Rattle.cn_core.proofs.LedgerLemmas.{IsCore-start, IsCore-state_after_enter, IsCore-state_after_step, sound-by_history}

-- ---- by any history, whether its events were accepted or not, after what is carried

-- the steps that are carried were made before
steps-rise : (table : Table) (h : List Event) (carried : Carried) (end : End) → carried.steps end ≤ steps_before table h carried end
steps-rise table [] carried end = omega arith
steps-rise table (Enter c entry ∷ h) carried end = steps-rise table h carried end
steps-rise table (Step c ∷ h) carried end = omega (arith, steps-rise table h carried end)

module _ (network : Network) (carried : Carried) (is : IsNetwork network) (shares : HasShares network.table.width carried) where
  -- the name of a visit that comes now is not below those that are carried
  late : (h : List Event) (i : ℕ) → i < network.table.width
      → carried.enters ≤ name_of network.table.width i (steps_before network.table h carried (Exit i))
  late h i within =
      let v : ℕ = steps_before network.table h carried (Exit i) in
      let early = (name-below carried.enters network.table.width i v within).1 in
      grind (arith, shares i within, steps-rise network.table h carried (Exit i))

  exit-below : (wire i : ℕ) → end_of network.table wire ≡ Exit i → i < network.table.width
  exit-below wire i e = elim (cases_lt wire (length network.table.ends)) [
    | inl within ↦ stands-at network is wire (Exit i) within e
    | inr beyond ↦ absurd (let none = get_or_past network.table.ends wire (Balancer 0) (omega arith) in cc)
  ]

  -- a step that leads to a name leads past an exit, whose next visit it is
  record Left (h : List Event) (p : Option Position) (name : ℕ) : Type 0 where
    exit : ℕ
    below : exit < network.table.width
    from : end_at network.table p ≡ Some (Exit exit)
    named : name + carried.enters ≡ name_of network.table.width exit (steps_before network.table h carried (Exit exit))

  left : (h : List Event) (p : Option Position) (name : ℕ)
      → option_map (λ end. position_past network.table carried.enters end (steps_before network.table h carried end))
      (end_at network.table p) ≡ Some (Holds name) → Left h p name
  left h (Some (On wire)) name e = by (end_of network.table wire) refl e
    where
      by : (end : End) → end_of network.table wire ≡ end
          → Some (position_past network.table carried.enters end (steps_before network.table h carried end)) ≡ Some (Holds name)
          → Left h (Some (On wire)) name
      by (Balancer b) ends past = absurd (cc)
      by (Exit i) ends past = record {
        exit = i;
        below = exit-below wire i ends;
        from = ap Some ends;
        named = let known : name_of network.table.width i (steps_before network.table h carried (Exit i)) - carried.enters ≡ name = cc in
            omega (arith, late h i (exit-below wire i ends));
      }
  left h _ name e = absurd (cc)

  -- what a step does to the positions: it changes only its client's
  mine : (h : List Event) (b name : ℕ) → position_after network.table (Step b ∷ h) carried b ≡ Some (Holds name)
      → Left h (position_after network.table h carried b) name
  mine h b name e = left h (position_after network.table h carried b) name (rw (eq-eqb b b refl) at e)

  -- the visit of a name was made before
  given : (h : List Event) (c name : ℕ) → position_after network.table h carried c ≡ Some (Holds name)
      → (name + carried.enters) / network.table.width
      < steps_before network.table h carried (Exit ((name + carried.enters) % network.table.width))
  given [] c name e = absurd (cc)
  given (Enter b entry ∷ h) c name e = grind (arith, nat_tests, given h c name)
  given (Step b ∷ h) c name e = elim (cases_eq c b) [
    | inl same ↦
        let l = mine h b name (rw same at e) in
        let (exit, visit) = exit_of-name_of network.table.width l.exit (steps_before network.table h carried (Exit l.exit)) l.below in
        grind (arith, l.from, l.named)
    | inr other ↦ let before = given h c name (rw (ne_eqb c b other) at e) in omega arith
  ]

  -- who leaves now has a name that nobody holds
  fresh : (h : List Event) (b c name : ℕ) → Left h (position_after network.table h carried b) name
      → position_after network.table h carried c ≡ Some (Holds name) → ⊥
  fresh h b c name l held =
      let (exit, visit) = exit_of-name_of network.table.width l.exit (steps_before network.table h carried (Exit l.exit)) l.below in
      let before = given h c name held in
      let now : (name + carried.enters) / network.table.width
      ≡ steps_before network.table h carried (Exit ((name + carried.enters) % network.table.width)) = rw (l.named, exit, visit) refl in
      omega arith

  pub one-holder : (h : List Event) → HasOneHolder network.table h carried
  one-holder [] c d name e f = absurd (cc)
  one-holder (Enter b entry ∷ h) c d name e f = grind (arith, nat_tests, one-holder h c d name)
  one-holder (Step b ∷ h) c d name e f = elim (cases_eq c b) [
    | inl same ↦ elim (cases_eq d b) [
      | inl also ↦ same ∙ sym also
      | inr another ↦ absurd (fresh h b d name (mine h b name (rw same at e)) (rw (ne_eqb d b another) at f))
    ]
    | inr other ↦ elim (cases_eq d b) [
      | inl same ↦ absurd (fresh h b c name (mine h b name (rw same at f)) (rw (ne_eqb c b other) at e))
      | inr another ↦ one-holder h c d name (rw (ne_eqb c b other) at e) (rw (ne_eqb d b another) at f)
    ]
  ]

-- a core of the network that agrees with a history and the earlier epochs
pub record Reaches (network : Network) (h : List Event) (earlier : List (List Event)) : Type 0 where
  pub state : State
  pub same : state.network ≡ network
  pub is : IsCore state
  pub agrees : Agrees state h earlier

-- what follows from an accepted event
entered-by : (table : Table) (h : List Event) (k : Carried) (client entry : ℕ) (beyond there full : Bool)
    → is_accepted (if beyond then EnterRefused NoSuchEntry else if there then EnterRefused AlreadyIn else if full then EnterRefused
    EpochFull else Entered) ≡ true
    → (beyond ≡ false) × (there ≡ false) × (full ≡ false)
entered-by table h k client entry false false false e = (refl, refl, refl)
entered-by table h k client entry _ _ _ e = absurd (cc)

nowhere : (p : Option Position) → is_some p ≡ false → p ≡ None
nowhere None e = refl
nowhere (Some p) e = absurd (cc)

stepped-by : (table : Table) (h : List Event) (k : Carried) (p : Option Position) → is_accepted (step_answer table h k p) ≡ true
    → (wire : ℕ) × (p ≡ Some (On wire))
stepped-by table h k (Some (On wire)) e = (wire, refl)
stepped-by table h k _ e = absurd (cc)

module _ (network : Network) (is : IsNetwork network) where
  -- one event more
  enters : (h : List Event) (earlier : List (List Event)) (client entry : ℕ) → Reaches network h earlier
      → IsHistory network.table (Enter client entry ∷ h) (carried_by network.table earlier)
      → Reaches network (Enter client entry ∷ h) earlier
  enters h earlier client entry r (accepted, before) =
      let s : State = r.state in
      let k : Carried = carried_by network.table earlier in
      let (epochs, a) = r.agrees in
      let (within, absent, room) = entered-by network.table h k client entry (nat_le network.table.entries entry)
      (is_some (position_after network.table h k client)) (nat_le MOST_CLIENTS (enters_of h)) accepted in
      let at : entry < s.network.table.entries = rw r.same (grind (arith, nat_tests, within)) in
      let new : position_in s.clients client ≡ None =
      a.positions client ∙ rw r.same (nowhere (position_after network.table h k client) absent) in
      let few : length s.clients < MOST_CLIENTS = grind (arith, nat_tests, room, a.total) in
      record {
        state = state_after_enter s client entry;
        same = r.same;
        is = IsCore-state_after_enter s client entry r.is at new few;
        agrees = (epochs, AgreesAfter-state_after_enter s h (carried_by s.network.table earlier) client entry r.is.state at new few a);
      }

  steps : (h : List Event) (earlier : List (List Event)) (client : ℕ) → Reaches network h earlier
      → IsHistory network.table (Step client ∷ h) (carried_by network.table earlier) → Reaches network (Step client ∷ h) earlier
  steps h earlier client r (accepted, before) =
      let s : State = r.state in
      let k : Carried = carried_by network.table earlier in
      let (epochs, a) = r.agrees in
      let (wire, there) = stepped-by network.table h k (position_after network.table h k client) accepted in
      let on : position_in s.clients client ≡ Some (On wire) = a.positions client ∙ rw r.same there in
      record {
        state = state_after_step s client (end_of s.network.table wire);
        same = (after-step s client (end_of s.network.table wire)).0 ∙ r.same;
        is = IsCore-state_after_step s client wire (end_of s.network.table wire) r.is on refl;
        agrees = Agrees-state_after_step s h earlier client wire (end_of s.network.table wire) r.is.state on refl (epochs, a);
      }

  -- one epoch more
  goes : (earlier : List (List Event)) (h : List Event) → Reaches network [] earlier
      → IsHistory network.table h (carried_by network.table earlier) → Reaches network h earlier
  goes earlier [] r accepted = r
  goes earlier (Enter client entry ∷ h) r accepted = enters h earlier client entry (goes earlier h r accepted.1) accepted
  goes earlier (Step client ∷ h) r accepted = steps h earlier client (goes earlier h r accepted.1) accepted

  carries : (earlier : List (List Event)) (h : List Event) (r : Reaches network h earlier) → inside_in r.state ≡ 0
      → (carried_by network.table (h ∷ earlier)).enters ≤ MOST_CARRIED → Reaches network [] (h ∷ earlier)
  carries earlier h r quiet few =
      let a = r.agrees.1 in
      let base : r.state.base ≡ (carried_by network.table earlier).enters = a.base ∙ rw r.same refl in
      record {
        state = after_carry r.state;
        same = r.same;
        is = IsCore-after_carry r.state r.is quiet (omega (arith, base, a.total));
        agrees = Agrees-after_carry r.state h earlier quiet r.agrees;
      }

  pub reached : (earlier : List (List Event)) → AreEpochs network.table earlier → (carried_by network.table earlier).enters ≤ MOST_CARRIED
      → Reaches network [] earlier
  reached [] epochs few = record { state = start network; same = refl; is = IsCore-start network is; agrees = Agrees-start network }
  reached (h ∷ earlier) (accepted, quiet, epochs) few =
      let r : Reaches network h earlier = goes earlier h (reached earlier epochs (omega arith)) accepted in
      let none : inside_in r.state ≡ 0 = inside-by_history r.state h (carried_by r.state.network.table earlier) r.agrees.1
      ∙ rw r.same quiet in
      carries earlier h r none few

-- where an epoch begins, the exits have let out their shares
shares-at : (s : State) (earlier : List (List Event)) → IsCore s → Agrees s [] earlier
    → HasShares s.network.table.width (carried_by s.network.table earlier)
shares-at s earlier is (epochs, a) i within =
    let nobody : inside_in s ≡ 0 = omega (arith, a.total, inside-or-named s.clients) in
    let came : s.base + length s.clients ≡ (carried_by s.network.table earlier).enters = omega (arith, a.base, a.total) in
    sym (a.counts (Exit i)) ∙ visits-after-carry s is nobody i within ∙ ap (λ m. share m s.network.table.width i) came

-- epochs that were accepted let out by each exit its share of their clients
pub shares-of : (network : Network) (earlier : List (List Event)) → IsNetwork network → AreEpochs network.table earlier
    → (carried_by network.table earlier).enters ≤ MOST_CARRIED → HasShares network.table.width (carried_by network.table earlier)
shares-of network earlier is epochs few =
    let r : Reaches network [] earlier = reached network is earlier epochs few in
    subst (λ (n : Network). HasShares n.table.width (carried_by n.table earlier)) r.same (shares-at r.state earlier r.is r.agrees)

-- so did the earlier epochs of a core
pub shares-by_history : (s : State) → IsCore s → ByHistories s (λ history carried. HasShares s.network.table.width carried)
shares-by_history s is h earlier (epochs, a) =
    shares-of s.network earlier is.state.network epochs (omega (arith, a.base, is.state.carried))

-- after them no two clients hold one name
pub one-holder-after : (network : Network) (h : List Event) (earlier : List (List Event)) → IsNetwork network
    → AreEpochs network.table earlier → (carried_by network.table earlier).enters ≤ MOST_CARRIED
    → HasOneHolder network.table h (carried_by network.table earlier)
one-holder-after network h earlier is epochs few =
    one-holder network (carried_by network.table earlier) is (shares-of network earlier is epochs few) h

-- what the laws say
pub ruleset holder_laws = (one-holder-after)

pub ruleset state_laws = (sound-by_history, bounded-state, shares-by_history)
