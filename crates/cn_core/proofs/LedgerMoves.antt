-- A client that enters, passes a balancer, or leaves by an exit is an event of the ledger.
use Rattle.cn_core.proofs.Common.{◌≡◌, ℕ, ◌+◌, ◌<◌, Bool, cond, nat_eq, List, ◌∷◌, length, refl, ap, arith, Some, ◌∙◌, slice_index, ◌&&◌, eqb, nat_tests, AgreesAfter, Balancer, Carried, End, Enter, Event, Exit, IsState, On, Position, State, Step, count_by, end_of, name_of, past, position_in, position_past, state_after_enter, state_after_step, state_ledger, with_position, ◌==◌, when, one_more-at, is_end, Enters, Passes, is_on, holds, given_in_state, count-push, count-set, count-pair-push, count-pair-set, is_end-sym, ◌-◌, exit_of-name_of, Leaves, cases_Bool}
use Rattle.cn_core.proofs.StateLemmas.{name-later, stands-at}
use Rattle.cn_core.proofs.HistoryLemmas.{end-after, past-state_after_step}

pub ledger-enters : (s : State) (h : List Event) (k : Carried) (client entry : ℕ) → IsState s → entry < s.network.table.entries
    → Enters s.network.table (state_ledger s h k) (state_ledger (state_after_enter s client entry) (Enter client entry ∷ h) k) client entry
ledger-enters s h k client entry is within = record {
  inside = within;
  entered = λ e. grind (arith, nat_tests, one_more-at s.entered entry e (omega (arith, is.entries)));
  count = λ end. refl;
  on = λ wire. count-push (is_on wire) s.clients client (On entry);
  standing = λ wire d. grind (arith, nat_tests, count-pair-push (is_on wire) d s.clients client (On entry));
  given = given;
  granted = λ d i v name. grind (arith, nat_tests, count-pair-push (holds s.base name) d s.clients client (On entry));
}
  where
    given : (end : End) (n : ℕ) → given_in_state (state_after_enter s client entry) (Enter client entry ∷ h) k end n
        ≡ given_in_state s h k end n
    given (Balancer b) n = refl
    given (Exit i) v =
        let name : ℕ = name_of s.network.table.width i v in
        grind (arith, nat_tests, count-push (holds s.base name) s.clients client (On entry))

-- what passages and leaves have in common
pub count-after : (s : State) (client wire : ℕ) (end other : End) → IsState s → wire < length s.network.table.ends
    → end_of s.network.table wire ≡ end
    → past (state_after_step s client end) other ≡ past s other + when (is_end end other) 1
count-after s client wire end other is within ends =
    past-state_after_step s client wire end other is within ends ∙ ap (λ (b : Bool). past s other + cond b 1 0) (is_end-sym other end)

pub standing-after : (s : State) (client wire : ℕ) (to : Position) (u d : ℕ) → position_in s.clients client ≡ Some (On wire)
    → count_by (λ e. nat_eq d e.0 && is_on u e.1) (with_position s.clients client to) + when ((wire == u) && (client == d)) 1
    ≡ count_by (λ e. nat_eq d e.0 && is_on u e.1) s.clients + when (client == d) (when (is_on u to) 1)
standing-after s client wire to u d on =
    grind (arith, nat_tests, cases_Bool (is_on u to), count-pair-set (is_on u) d s.clients client to (On wire) on)

pub ledger-passes : (s : State) (h : List Event) (k : Carried) (client wire b : ℕ) → IsState s
    → position_in s.clients client ≡ Some (On wire) → end_of s.network.table wire ≡ Balancer b → AgreesAfter s h k
    → Passes s.network.table (state_ledger s h k) (state_ledger (state_after_step s client (Balancer b)) (Step client ∷ h) k) client wire b
ledger-passes s h k client wire b is on ends a = record {
  goes = record {
    inside = is.on_wires client wire on;
    ends = ends;
    entered = λ e. refl;
    count = λ other. count-after s client wire (Balancer b) other is (is.on_wires client wire on) ends;
    on = λ u. count-set (is_on u) s.clients client to (On wire) on;
    standing = λ u d. standing-after s client wire to u d on;
    given = given;
  };
  granted = λ d i v name.
      grind (arith, nat_tests, count-pair-set (holds s.base name) d s.clients client to (On wire) on);
}
  where
    to : Position
    to = position_past s.network.table s.base (Balancer b) (slice_index s.passes b)

    given : (other : End) (n : ℕ) → given_in_state (state_after_step s client (Balancer b)) (Step client ∷ h) k other n
        ≡ given_in_state s h k other n + when (is_end (Balancer b) other && (slice_index s.passes b == n)) 1
    given (Balancer c) n =
        rw (end-after s h k client wire (Balancer b) a on ends) (grind (arith, nat_tests, a.counts (Balancer c)))
    given (Exit i) v =
        let name : ℕ = name_of s.network.table.width i v in
        grind (arith, nat_tests, count-set (holds s.base name) s.clients client to (On wire) on)

-- ---- leaves

-- two names are the same exactly where exits and visits are
names-same : (w i j x v : ℕ) → i < w → j < w → eqb (name_of w i x) (name_of w j v) ≡ (eqb j i && eqb x v)
names-same w i j x v li lj = grind (arith, nat_tests, exit_of-name_of w i x li, exit_of-name_of w j v lj)

pub ledger-leaves : (s : State) (h : List Event) (k : Carried) (client wire i : ℕ) → IsState s
    → position_in s.clients client ≡ Some (On wire) → end_of s.network.table wire ≡ Exit i → AgreesAfter s h k
    → Leaves s.network.table (state_ledger s h k) (state_ledger (state_after_step s client (Exit i)) (Step client ∷ h) k) client wire i
ledger-leaves s h k client wire i is on ends a = record {
  goes = record {
    inside = is.on_wires client wire on;
    ends = ends;
    entered = λ e. refl;
    count = λ other. count-after s client wire (Exit i) other is (is.on_wires client wire on) ends;
    on = λ u. count-set (is_on u) s.clients client to (On wire) on;
    standing = λ u d. standing-after s client wire to u d on;
    given = given;
  };
  granted = λ d j v name.
      let held = rw whole at (count-pair-set (holds s.base name) d s.clients client to (On wire) on) in
      grind (arith, nat_tests, names-same w i j (slice_index s.visits i) v below);
}
  where
    w : ℕ
    w = s.network.table.width

    to : Position
    to = position_past s.network.table s.base (Exit i) (slice_index s.visits i)

    below : i < w
    below = stands-at s.network is.network wire (Exit i) (is.on_wires client wire on) ends

    -- the name that is answered, with the base
    whole : name_of w i (slice_index s.visits i) - s.base + s.base ≡ name_of w i (slice_index s.visits i)
    whole = omega (arith, name-later s is i below)

    given : (other : End) (n : ℕ) → given_in_state (state_after_step s client (Exit i)) (Step client ∷ h) k other n
        ≡ given_in_state s h k other n + when (is_end (Exit i) other && (slice_index s.visits i == n)) 1
    given (Balancer b) n = rw (end-after s h k client wire (Exit i) a on ends) (omega arith)
    given (Exit j) v =
        let held = rw whole at (count-set (holds s.base (name_of w j v)) s.clients client to (On wire) on) in
        grind (arith, nat_tests, names-same w i j (slice_index s.visits i) v below)
