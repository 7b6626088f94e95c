-- A state that agrees with a history answers by it, and the passages of each history have sound numbers.
use Rattle.cn_core.proofs.Common.{◌≡◌, ℕ, ◌+◌, ◌<◌, ◌≤◌, cond, nat_eq, List, [], ◌∷◌, length, get_or, refl, ap, arith, Some, None, sym, ◌∙◌, length-append, inl, inr, subst, drop, drop-cons, add-one, AgreesAfter, Balancer, Carried, End, Enter, Event, Exit, IsState, Network, On, Position, State, Step, after_carry, carried_by, count_by, end_of, inside_in, nat_tests, past, position_after, position_in, position_past, start, state_after_enter, state_after_step, values_of, with_position, length-set_value, MOST_CLIENTS, one_more-at, zero_at, Table, is_end, Holds, NoSuchEntry, AlreadyIn, EpochFull, Memory, Reply, Entered, EnterRefused, Stepped, StepRefused, is_named, is_inside, leaves_of, inside_of, end_at, is_leave, IsHistory, Agrees, MayAnswerAll, history_after, steps_before, EntersTo, StepsTo, TakesTo, IsLedgerEvent, AnswersByHistory, RunsByHistory, RunsTo, lookup-push, lookup-set, count-push, count-set, ◌&&◌, Bool, true, false, eqb, nat_lt, once_below, is_same_end, times_passed}
use Rattle.cn_ledger.specs.declared.reply.StepFault.TheVariants.{Stranger, HasName}
use Rattle.cn_core.proofs.StateLemmas.{count-cons, stands-at}

pub Agrees-start : (network : Network) → Agrees (start network) [] []
Agrees-start network = (
  tt,
  record {
    base = refl;
    accepted = tt;
    positions = λ q. refl;
    entered = λ e. zero_at network.table.entries e;
    total = refl;
    left = refl;
    counts = none;
  },
)
  where
    none : (end : End) → past (start network) end ≡ 0
    none (Balancer b) = zero_at network.table.balancers b
    none (Exit i) = zero_at network.table.width i

pub AgreesAfter-state_after_enter : (s : State) (h : List Event) (k : Carried) (client entry : ℕ) → IsState s
    → entry < s.network.table.entries → position_in s.clients client ≡ None → length s.clients < MOST_CLIENTS
    → AgreesAfter s h k → AgreesAfter (state_after_enter s client entry) (Enter client entry ∷ h) k
AgreesAfter-state_after_enter s h k client entry is within absent room a = record {
  base = a.base;
  accepted = (grind (arith, nat_tests, a.positions client, a.total), a.accepted);
  positions = λ q. rw (lookup-push s.clients client (On entry) q absent, a.positions q) refl;
  entered = λ e. rw (one_more-at s.entered entry e (omega (arith, is.entries)), a.entered e) refl;
  total = omega (arith, a.total, length-append s.clients ((client, On entry) ∷ []));
  left = omega (arith, a.left, count-push is_named s.clients client (On entry));
  counts = a.counts;
}

-- one more past an end, and no other
pub past-state_after_step : (s : State) (client wire : ℕ) (end other : End) → IsState s → wire < length s.network.table.ends
    → end_of s.network.table wire ≡ end
    → past (state_after_step s client end) other ≡ past s other + cond (is_end other end) 1 0
past-state_after_step s client wire (Balancer b) (Balancer a) is within ends =
    let there : b < s.network.table.balancers = stands-at s.network is.network wire (Balancer b) within ends in
    grind (arith, nat_tests, one_more-at s.passes b a, is.balancers)
past-state_after_step s client wire (Exit i) (Exit j) is within ends =
    let there : i < s.network.table.width = stands-at s.network is.network wire (Exit i) within ends in
    grind (arith, nat_tests, one_more-at s.visits i j, is.exits)
past-state_after_step s client wire _ _ is within ends = omega arith

-- what a step leaves, and where its client is
pub after-step : (s : State) (client : ℕ) (end : End) → let z : State = state_after_step s client end in
    (z.network ≡ s.network) × (z.base ≡ s.base) × (z.entered ≡ s.entered)
    × (z.clients ≡ with_position s.clients client (position_past s.network.table s.base end (past s end)))
after-step s client (Balancer b) = (refl, refl, refl, refl)
after-step s client (Exit i) = (refl, refl, refl, refl)

-- a token that goes past an exit has a name, and past a balancer it has none
named-past : (table : Table) (base : ℕ) (end : End) (n : ℕ) → is_named (position_past table base end n) ≡ is_leave (Some end)
named-past table base (Balancer b) n = refl
named-past table base (Exit i) n = refl

-- a client that stands on a wire stands there by the history
pub end-after : (s : State) (h : List Event) (k : Carried) (client wire : ℕ) (end : End) → AgreesAfter s h k
    → position_in s.clients client ≡ Some (On wire) → end_of s.network.table wire ≡ end
    → end_at s.network.table (position_after s.network.table h k client) ≡ Some end
end-after s h k client wire end a on ends = rw (← a.positions client, on) (ap Some ends)

pub AgreesAfter-state_after_step : (s : State) (h : List Event) (k : Carried) (client wire : ℕ) (end : End) → IsState s
    → position_in s.clients client ≡ Some (On wire) → end_of s.network.table wire ≡ end
    → AgreesAfter s h k → AgreesAfter (state_after_step s client end) (Step client ∷ h) k
AgreesAfter-state_after_step s h k client wire end is on ends a =
    let to : Position = position_past s.network.table s.base end (past s end) in
    let (network, base, entered, clients) = after-step s client end in
    let here = end-after s h k client wire end a on ends in record {
      base = rw base a.base;
      accepted = subst (λ (n : Network). IsHistory n.table (Step client ∷ h) k) (sym network)
          (rw (← a.positions client, on) refl, a.accepted);
      positions = λ q.
          rw (clients, network, lookup-set s.clients client to (On wire) q on)
          (rw (a.positions q, here, a.counts end, a.base) refl);
      entered = λ e. rw entered (a.entered e);
      total = rw (clients, length-set_value (nat_eq client) s.clients to) a.total;
      left = rw (clients, network, here)
          (let more = count-set is_named s.clients client to (On wire) on in
          let same = ap {B = ℕ} (λ b. cond b 1 0) (named-past s.network.table s.base end (past s end)) in
          let kept = ap (λ (n : Network). leaves_of n.table h k) network in
          omega (arith, a.left));
      counts = λ other. rw (
        network,
        past-state_after_step s client wire end other is (is.on_wires client wire on) ends,
        a.counts other,
        here,
      ) refl;
    }

pub history-enter : (old : State) (client entry : ℕ) (reply : Reply) (new : State) → IsState old → EntersTo old client entry reply new
    → AnswersByHistory old (Enter client entry) reply new
history-enter old client entry Entered new is (within, absent, room, e) h earlier (epochs, a) = (
  inl (grind (arith, nat_tests, a.positions client, a.total)),
  rw e (epochs, AgreesAfter-state_after_enter old h (carried_by old.network.table earlier) client entry is within absent room a),
)
history-enter old client entry (EnterRefused NoSuchEntry) new is (beyond, e) h earlier a = (inl (grind (arith, nat_tests)), rw e a)
history-enter old client entry (EnterRefused AlreadyIn) new is (within, there, e) h earlier a =
    (inl (grind (arith, nat_tests, a.1.positions client)), rw e a)
history-enter old client entry (EnterRefused EpochFull) new is (within, absent, full, e) h earlier a =
    (inl (grind (arith, nat_tests, a.1.positions client, a.1.total)), rw e a)
history-enter old client entry (EnterRefused Memory) new is (within, absent, room, e) h earlier a =
    (inr (grind (arith, nat_tests, a.1.positions client, a.1.total), refl), rw e a)
history-enter old client entry _ new is none h earlier a = absurd none

pub Agrees-state_after_step : (s : State) (h : List Event) (earlier : List (List Event)) (client wire : ℕ) (end : End) → IsState s
    → position_in s.clients client ≡ Some (On wire) → end_of s.network.table wire ≡ end
    → Agrees s h earlier → Agrees (state_after_step s client end) (Step client ∷ h) earlier
Agrees-state_after_step s h earlier client wire (Balancer b) is on ends (epochs, a) =
    (epochs, AgreesAfter-state_after_step s h (carried_by s.network.table earlier) client wire (Balancer b) is on ends a)
Agrees-state_after_step s h earlier client wire (Exit i) is on ends (epochs, a) =
    (epochs, AgreesAfter-state_after_step s h (carried_by s.network.table earlier) client wire (Exit i) is on ends a)

pub history-step : (old : State) (client : ℕ) (reply : Reply) (new : State) → IsState old → StepsTo old client reply new
    → AnswersByHistory old (Step client) reply new
history-step old client (Stepped moved) new is (wire, on, m, e) h earlier a = (
  inl (rw (← a.1.positions client, on, m, ← a.1.base, a.1.counts (end_of old.network.table wire)) refl),
  rw e (Agrees-state_after_step old h earlier client wire (end_of old.network.table wire) is on refl a),
)
history-step old client (StepRefused Stranger) new is (none, e) h earlier a = (inl (rw (← a.1.positions client, none) refl), rw e a)
history-step old client (StepRefused (HasName name)) new is (named, e) h earlier a = (inl (rw (← a.1.positions client, named) refl), rw e a)
history-step old client _ new is none h earlier a = absurd none

-- a run from the i-th event on is an answer and the run of the rest
pub runs-at : (old mid new : State) (cs : List Event) (i : ℕ) (d : Event) (r : Reply) (rs : List Reply) → i < length cs
    → AnswersByHistory old (get_or cs i d) r mid → mid.network ≡ old.network → RunsByHistory mid (drop (i + 1) cs) rs new
    → RunsByHistory old (drop i cs) (r ∷ rs) new
runs-at old mid new cs i d r rs within answered same runs =
    let shown : drop i cs ≡ get_or cs i d ∷ drop (i + 1) cs = rw (add-one, drop-cons cs i d) refl in
    rw shown (λ h earlier a.
    let after : List Event = history_after h (get_or cs i d) r in
    let left : List Event = drop (i + 1) cs in
    let (answer, agrees) = answered h earlier a in
    let (rest, end) = runs after earlier agrees in (
      (answer, subst (λ (n : Network). MayAnswerAll n.table after (carried_by n.table earlier) left rs) same rest),
      end,
    ))

-- the same of the states that a run goes through
pub runs_to-at : (old mid new : State) (cs : List Event) (i : ℕ) (d : Event) (r : Reply) (rs : List Reply) → i < length cs
    → TakesTo old (get_or cs i d) r mid → IsLedgerEvent old (get_or cs i d) r mid → RunsTo mid (drop (i + 1) cs) rs new
    → RunsTo old (drop i cs) (r ∷ rs) new
runs_to-at old mid new cs i d r rs within takes is runs =
    let shown : drop i cs ≡ get_or cs i d ∷ drop (i + 1) cs = rw (add-one, drop-cons cs i d) refl in
    rw shown (mid, takes, is, runs)

-- each client is inside or has a name
pub inside-or-named : (clients : List (ℕ × Position))
    → count_by is_inside (values_of clients) + count_by is_named (values_of clients) ≡ length clients
inside-or-named [] = refl
inside-or-named ((c, On wire) ∷ rest) =
    let a = count-cons is_inside (On wire) (values_of rest) in let b = count-cons is_named (On wire) (values_of rest) in
    omega (arith, inside-or-named rest)
inside-or-named ((c, Holds name) ∷ rest) =
    let a = count-cons is_inside (Holds name) (values_of rest) in let b = count-cons is_named (Holds name) (values_of rest) in
    omega (arith, inside-or-named rest)

pub inside-by_history : (s : State) (h : List Event) (k : Carried) → AgreesAfter s h k → inside_in s ≡ inside_of s.network.table h k
inside-by_history s h k a = omega (arith, inside-or-named s.clients, a.total, a.left)

-- an epoch that is over is one of the earlier ones
pub Agrees-after_carry : (s : State) (h : List Event) (earlier : List (List Event)) → inside_in s ≡ 0 → Agrees s h earlier
    → Agrees (after_carry s) [] (h ∷ earlier)
Agrees-after_carry s h earlier quiet (epochs, a) = (
  (a.accepted, sym (inside-by_history s h (carried_by s.network.table earlier) a) ∙ quiet, epochs),
  record {
    base = omega (arith, a.base, a.total);
    accepted = tt;
    positions = λ q. refl;
    entered = a.entered;
    total = refl;
    left = refl;
    counts = counts;
  },
)
  where
    counts : (end : End) → past (after_carry s) end ≡ steps_before s.network.table h (carried_by s.network.table earlier) end
    counts (Balancer b) = a.counts (Balancer b)
    counts (Exit i) = a.counts (Exit i)

-- an event lets in one client at most
pub came-after : (old new : State) (event : Event) (reply : Reply) → TakesTo old event reply new
    → new.base + length new.clients ≤ old.base + length old.clients + 1
came-after old new (Enter client entry) Entered (within, absent, room, e) =
    rw e (omega (arith, length-append old.clients ((client, On entry) ∷ [])))
came-after old new (Step client) (Stepped moved) (wire, on, m, e) =
    let end : End = end_of old.network.table wire in
    let (network, base, entered, clients) = after-step old client end in
    let same = ap length clients
    ∙ length-set_value (nat_eq client) old.clients (position_past old.network.table old.base end (past old end)) in
    rw e (omega arith)
came-after old new (Enter client entry) (EnterRefused NoSuchEntry) (beyond, e) = rw e (omega arith)
came-after old new (Step client) (StepRefused Stranger) (none, e) = rw e (omega arith)
came-after old new (Step client) (StepRefused (HasName name)) (named, e) = rw e (omega arith)
came-after old new _ _ takes = grind arith

-- ---- passages

-- numbers that are those below m, each once, and m if the step is a passage
one-more : (before times m n : ℕ) (here : Bool) → before + times ≡ cond (nat_lt n m) 1 0
    → before + (times + cond (here && eqb m n) 1 0) ≡ cond (nat_lt n (m + cond here 1 0)) 1 0
one-more before times m n true sound = grind (arith, nat_tests)
one-more before times m n false sound = grind (arith, nat_tests)

-- the passage numbers of each balancer, with those that are carried, are those below its count, each once
abbrev pub HasSoundPassages : Table → List Event → Carried → Type 0
HasSoundPassages table history carried =
    (b n : ℕ) → once_below (carried.steps (Balancer b)) n + times_passed table history carried b n
    ≡ once_below (steps_before table history carried (Balancer b)) n

pub sound-passages : (table : Table) (history : List Event) (carried : Carried) → HasSoundPassages table history carried
sound-passages table [] carried b n = omega arith
sound-passages table (Enter c entry ∷ history) carried b n = sound-passages table history carried b n
sound-passages table (Step c ∷ history) carried b n =
    one-more (once_below (carried.steps (Balancer b)) n) (times_passed table history carried b n)
    (steps_before table history carried (Balancer b)) n
    (is_same_end (Balancer b) (end_at table (position_after table history carried c))) (sound-passages table history carried b n)

pub ruleset inside_laws = (inside-by_history)
