-- Each event keeps what each state keeps.
use Rattle.cn_core.proofs.Common.{Bool, cond, ◌≡◌, ℕ, ◌+◌, ◌*◌, ◌%◌, ◌<◌, ◌≤◌, nat_eq, List, [], ◌∷◌, ◌++◌, length, arith, Some, None, ◌∙◌, slice_index, length-set, length-append, subst, ap, replicate, Balancer, End, Exit, IsState, count_by, Network, On, Position, State, after_carry, end_of, name_of, nat_tests, once_below, position_in, position_past, share, start, state_after_enter, state_after_step, length-replicate, sum_by-cons, length-set_value, MOST_CARRIED, MOST_CLIENTS, name-below, one_more-at, sum-below-change, sum-below-zero, zero_at, one_more, Stands, IsNetwork, with_position, refl, came_in, times_entered, lookup-push, lookup-set, times-push, times-absent, times-set}

pub count-cons : {X : Type 0} (p : X → Bool) (x : X) (xs : List X) → count_by p (x ∷ xs) ≡ cond (p x) 1 0 + count_by p xs
count-cons p x xs = sum_by-cons (λ y. cond (p y) 1 0) x xs

-- how often the name of a visit of an exit was given in earlier epochs: they gave each exit its share of the base
abbrev pub given_before : State → ℕ → ℕ → ℕ
given_before s i v = once_below (share s.base s.network.table.width i) v

-- what a table says of the end of a wire
pub stands-at : (network : Network) → IsNetwork network → (wire : ℕ) (end : End) → wire < length network.table.ends
    → end_of network.table wire ≡ end → Stands network.table end
stands-at network is wire end within e = subst (Stands network.table) e (is.formed.stands wire within)

once-push : (clients : List (ℕ × Position)) (client : ℕ) (position : Position) → position_in clients client ≡ None
    → ((q : ℕ) → times_entered q clients ≤ 1)
    → (q : ℕ) → times_entered q (clients ++ (client, position) ∷ []) ≤ 1
once-push clients client position absent once q =
    grind (arith, nat_tests, once q, times-push clients client position q, times-absent clients client absent)

pub IsState-state_after_enter : (s : State) (client entry : ℕ) → IsState s → entry < s.network.table.entries
    → position_in s.clients client ≡ None → length s.clients < MOST_CLIENTS
    → IsState (state_after_enter s client entry)
IsState-state_after_enter s client entry is within absent room = record {
  network = is.network;
  entries = length-set s.entered entry (slice_index s.entered entry + 1) ∙ is.entries;
  balancers = is.balancers;
  exits = is.exits;
  few = omega (arith, length-append s.clients ((client, On entry) ∷ []));
  carried = is.carried;
  shares = is.shares;
  once = once-push s.clients client (On entry) absent is.once;
  all = grind (
    arith,
    nat_tests,
    is.all,
    length-append s.clients ((client, On entry) ∷ []),
    sum-below-change s.network.table.entries entry 1 (λ e. slice_index s.entered e) (λ e. slice_index (one_more s.entered entry) e)
        (λ u. one_more-at s.entered entry u (omega (arith, is.entries))),
  );
  on_wires = λ q wire on. on-wire q wire on;
}
  where
    entry_below : entry < length s.network.table.ends
    entry_below = omega (arith, is.network.formed.wires)

    on-wire : (q wire : ℕ) → position_in (s.clients ++ (client, On entry) ∷ []) q ≡ Some (On wire) → wire < length s.network.table.ends
    on-wire q wire on = grind (arith, entry_below, lookup-push s.clients client (On entry) q absent, is.on_wires q wire)

-- a client goes on to another position, and one count rises
moved-on : (s : State) (passes visits : List ℕ) (client wire : ℕ) (to : Position) → IsState s
    → position_in s.clients client ≡ Some (On wire) → length passes ≡ length s.passes → length visits ≡ length s.visits
    → ((i : ℕ) → slice_index s.visits i ≤ slice_index visits i)
    → ((w : ℕ) → to ≡ On w → w < length s.network.table.ends)
    → IsState (record s { passes = passes; visits = visits; clients = with_position s.clients client to })
moved-on s passes visits client wire to is on as_passes as_visits more lands = record {
  network = is.network;
  entries = is.entries;
  balancers = as_passes ∙ is.balancers;
  exits = as_visits ∙ is.exits;
  few = rw (length-set_value (nat_eq client) s.clients to) is.few;
  carried = is.carried;
  shares = λ j within. omega (arith, is.shares j within, more j);
  once = λ q. rw (times-set s.clients client to q) (is.once q);
  all = rw (length-set_value (nat_eq client) s.clients to) is.all;
  on_wires = λ q w h. grind (arith, lands w, lookup-set s.clients client to (On wire) q on, is.on_wires q w);
}

-- a token that steps off a wire goes past the balancer there, or out by the exit
pub IsState-state_after_step : (s : State) (client wire : ℕ) (end : End) → IsState s → position_in s.clients client ≡ Some (On wire)
    → end_of s.network.table wire ≡ end
    → IsState (state_after_step s client end)
IsState-state_after_step s client wire (Balancer b) is on ends =
    let n : ℕ = slice_index s.passes b in
    let at : ℕ = s.network.table.entries + 2 * b + n % 2 in
    let below = stands-at s.network is.network wire (Balancer b) (is.on_wires client wire on) ends in
    let within : at < length s.network.table.ends = omega (arith, is.network.formed.wires) in
    moved-on s (one_more s.passes b) s.visits client wire (position_past s.network.table s.base (Balancer b) n) is on
    (length-set s.passes b (n + 1)) refl (λ i. omega arith) (λ w e. let same : at ≡ w = cc in omega arith)
IsState-state_after_step s client wire (Exit i) is on ends =
    let n : ℕ = slice_index s.visits i in
    let below = stands-at s.network is.network wire (Exit i) (is.on_wires client wire on) ends in
    moved-on s s.passes (one_more s.visits i) client wire (position_past s.network.table s.base (Exit i) n) is on refl
    (length-set s.visits i (n + 1))
    (λ j. grind (arith, nat_tests, one_more-at s.visits i j (omega (arith, is.exits)))) (λ w e. absurd (cc))

-- of nobody each exit's share is nothing
pub share-zero : (w i : ℕ) → i < w → share 0 w i ≡ 0
share-zero w i within = grind (arith, (name-below 0 w i 0 within).0)

pub IsState-start : (network : Network) → IsNetwork network → IsState (start network)
IsState-start network is = record {
  network = is;
  entries = length-replicate network.table.entries 0;
  balancers = length-replicate network.table.balancers 0;
  exits = length-replicate network.table.width 0;
  few = omega arith;
  carried = omega arith;
  shares = λ i within. omega (arith, share-zero network.table.width i within);
  once = λ q. omega arith;
  all = sum-below-zero network.table.entries (λ e. slice_index (replicate network.table.entries 0) e) (zero_at network.table.entries);
  on_wires = λ q w h. cc;
}

pub IsState-after_carry : (s : State) → IsState s → s.base + length s.clients ≤ MOST_CARRIED
    → ((i : ℕ) → i < s.network.table.width → slice_index s.visits i ≡ share (came_in s) s.network.table.width i)
    → IsState (after_carry s)
IsState-after_carry s is room shared = record {
  network = is.network;
  entries = is.entries;
  balancers = is.balancers;
  exits = is.exits;
  few = omega arith;
  carried = room;
  shares = λ i within. let at = shared i within ∙ ap (λ m. share m s.network.table.width i) is.all in omega arith;
  once = λ q. omega arith;
  all = omega (arith, is.all);
  on_wires = λ q w h. cc;
}

-- the next name of an exit is none of those that were given before the epoch
pub name-later : (s : State) → IsState s → (i : ℕ) → i < s.network.table.width
    → s.base ≤ name_of s.network.table.width i (slice_index s.visits i)
name-later s is i within =
    grind (arith, is.shares i within, (name-below s.base s.network.table.width i (slice_index s.visits i) within).1)
