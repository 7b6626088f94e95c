-- Each event of a core is an event of its ledger, and so its ledger is sound.
use Rattle.cn_core.proofs.Common.{◌≡◌, ℕ, ◌+◌, ◌<◌, List, [], ◌∷◌, length, refl, ap, arith, Some, None, sym, ◌∙◌, ◌&&◌, nat_tests, AgreesAfter, Balancer, Carried, End, Enter, Event, Exit, IsCore, IsState, Network, On, State, Step, carried_by, end_of, name_of, nat_lt, once_below, past, position_in, share, start, state_after_enter, state_after_step, state_ledger, ◌==◌, le-ltb, when, MOST_CLIENTS, zero_at, Stands, IsNetwork, ByHistories, moved_past, IsSound, Stepped, IsLedgerEvent, StepsTo, given_in_state, HasSoundLedger, sound-enters, sound-leaves, sound-nothing, sound-passes}
use Rattle.cn_ledger.specs.declared.moved.Moved.{Moved}
use Rattle.cn_ledger.specs.Moves.{IsMoveOf}
use Rattle.cn_core.proofs.StateLemmas.{given_before, name-later, share-zero, stands-at, IsState-start, IsState-state_after_enter, IsState-state_after_step}
use Rattle.cn_core.proofs.HistoryLemmas.{Agrees-start, Agrees-state_after_step, AgreesAfter-state_after_enter, sound-passages}
use Rattle.cn_core.proofs.LedgerMoves.{ledger-enters, ledger-passes, ledger-leaves}

-- ---- every state is a sound ledger

-- a ledger whose numbers are those of another is as sound
sound-like : (s : State) (h g : List Event) (k m : Carried) → AgreesAfter s g m → IsSound s.network.table (state_ledger s h k)
    → IsSound s.network.table (state_ledger s g m)
sound-like s h g k m b sound = record {
  balanced = sound.balanced;
  clients = sound.clients;
  numbered = numbered;
  named = sound.named;
  once = sound.once;
  distinct = sound.distinct;
  owned = sound.owned;
}
  where
    numbered : (end : End) (n : ℕ) → Stands s.network.table end → given_in_state s g m end n ≡ once_below (past s end) n
    numbered (Balancer c) n there = sound-passages s.network.table g m c n ∙ ap (λ m. once_below m n) (sym (b.counts (Balancer c)))
    numbered (Exit i) n there = sound.numbered (Exit i) n there

-- by every history and earlier epochs that the state agrees with
pub sound-by_history : (s : State) → IsCore s → ByHistories s (HasSoundLedger s)
sound-by_history s is g others b =
    let (h, earlier, a, sound) = is.reached in
    sound-like s h g (carried_by s.network.table earlier) (carried_by s.network.table others) b.1 sound

pub IsCore-start : (network : Network) → IsNetwork network → IsCore (start network)
IsCore-start network is = record {
  state = IsState-start network is;
  reached = (
    [],
    [],
    Agrees-start network,
    sound-nothing network.table (state_ledger (start network) [] (carried_by network.table []))
        (record {
          entered = zero_at network.table.entries;
          count = count;
          on = λ u. refl;
          standing = λ u c. refl;
          given = given;
          granted = granted;
        }),
  );
}
  where
    none-below : (m n : ℕ) → m ≡ 0 → once_below m n ≡ 0
    none-below m n e = rw e (ap {B = ℕ} (λ b. when b 1) (le-ltb n 0 (omega arith)))

    count : (end : End) → past (start network) end ≡ 0
    count (Balancer b) = zero_at network.table.balancers b
    count (Exit i) = zero_at network.table.width i

    before : (i v : ℕ) → i < network.table.width → given_before (start network) i v ≡ 0
    before i v within = none-below (share 0 network.table.width i) v (share-zero network.table.width i within)

    given : (end : End) (n : ℕ) → given_in_state (start network) [] (carried_by network.table []) end n ≡ 0
    given (Balancer b) n = omega (arith, none-below 0 n refl)
    given (Exit i) v = grind (arith, nat_tests, before i v)

    granted : (c i v name : ℕ) → when (nat_lt i network.table.width && (name_of network.table.width i v == name))
        (when (0 == c) (given_before (start network) i v) + 0) ≡ 0
    granted c i v name = grind (arith, nat_tests, before i v)

pub IsCore-state_after_enter : (s : State) (client entry : ℕ) → IsCore s → entry < s.network.table.entries
    → position_in s.clients client ≡ None → length s.clients < MOST_CLIENTS
    → IsCore (state_after_enter s client entry)
IsCore-state_after_enter s client entry is within absent room =
    let (h, earlier, (epochs, a), sound) = is.reached in
    let k : Carried = carried_by s.network.table earlier in
    record {
      state = IsState-state_after_enter s client entry is.state within absent room;
      reached = (
        Enter client entry ∷ h,
        earlier,
        (epochs, AgreesAfter-state_after_enter s h k client entry is.state within absent room a),
        sound-enters s.network.table _ _ client entry (ledger-enters s h k client entry is.state within) sound,
      );
    }

sound-step : (s : State) (h : List Event) (earlier : List (List Event)) (client wire : ℕ) (end : End) → IsState s
    → position_in s.clients client ≡ Some (On wire) → end_of s.network.table wire ≡ end
    → AgreesAfter s h (carried_by s.network.table earlier) → HasSoundLedger s h (carried_by s.network.table earlier)
    → let z : State = state_after_step s client end in
    HasSoundLedger z (Step client ∷ h) (carried_by z.network.table earlier)
sound-step s h earlier client wire (Balancer b) is on ends a =
    sound-passes s.network.table _ _ client wire b
    (ledger-passes s h (carried_by s.network.table earlier) client wire b is on ends a)
sound-step s h earlier client wire (Exit i) is on ends a =
    sound-leaves s.network.table is.network.formed _ _ client wire i
    (ledger-leaves s h (carried_by s.network.table earlier) client wire i is on ends a)

pub IsCore-state_after_step : (s : State) (client wire : ℕ) (end : End) → IsCore s → position_in s.clients client ≡ Some (On wire)
    → end_of s.network.table wire ≡ end
    → IsCore (state_after_step s client end)
IsCore-state_after_step s client wire end is on ends =
    let (h, earlier, a, sound) = is.reached in
    record {
      state = IsState-state_after_step s client wire end is.state on ends;
      reached = (
        Step client ∷ h,
        earlier,
        Agrees-state_after_step s h earlier client wire end is.state on ends a,
        sound-step s h earlier client wire end is.state on ends a.1 sound,
      );
    }

-- ---- each accepted call is one event on the ledger

pub ledger-step : (old : State) (client : ℕ) (moved : Moved) (new : State) → IsState old → StepsTo old client (Stepped moved) new
    → IsLedgerEvent old (Step client) (Stepped moved) new
ledger-step old client moved new is (wire, on, m, e) h earlier (epochs, a) = rw (m, e) (by (end_of old.network.table wire) refl)
  where
    k : Carried
    k = carried_by old.network.table earlier

    by : (end : End) → end_of old.network.table wire ≡ end
        → IsMoveOf old.network.table old.base (state_ledger old h k) (state_ledger (state_after_step old client end) (Step client ∷ h) k)
        client (moved_past old.network.table old.base end (past old end))
    by (Balancer b) ends = (wire, ledger-passes old h k client wire b is on ends a, refl, refl)
    by (Exit i) ends =
        let below : i < old.network.table.width = stands-at old.network is.network wire (Exit i) (is.on_wires client wire on) ends in
        (wire, ledger-leaves old h k client wire i is on ends a, refl, omega (arith, name-later old is i below))
