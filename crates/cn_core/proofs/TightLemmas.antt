-- What a core has given out at any time, and when nobody is inside; then its counts can be carried on.
use Rattle.cn_core.proofs.Common.{◌≡◌, ℕ, ◌+◌, ◌%◌, ◌/◌, ◌<◌, ◌≤◌, cond, nat_eq, List, [], ◌∷◌, length, map, refl, ap, arith, Option, Some, slice_index, nat_tests, End, IsCore, IsState, On, Position, State, carried_by, count_by, eq-eqb, inside_in, name_of, once_below, past, position_in, share, state_ledger, values_of, ◌==◌, lt-ltb, times, each_below, name-below, name_of-exit_of, sum-below-part, times-cons, times-nil, MOST_ARRIVALS, Stands, Holds, came_in, name_at, name_in, times_entered, is_inside, is_named, IsQuiescent, Ledger, times_given, is_on, holds, granted_in_state, grants_of_clients, IsTightState, IsBoundedState, bounded, counts-few, names-differ, tight, count-pair-found, ◌≢◌, Bool, true, sym, ◌∙◌, ◌&&◌, cases_Bool, AgreesAfter, Balancer, Carried, Event, Exit, after_carry, nat_lt, eqb-true, ltb-true, when, MOST_CARRIED, sum-below-zero, total-where-agree, is_end, sum_at, IsSound, put}
use Rattle.std.proofs.lemmas.Nat.{mod_below}
use Rattle.cn_core.proofs.HistoryLemmas.{inside-or-named, Agrees-after_carry}
use Rattle.cn_core.proofs.StateLemmas.{count-cons, given_before, IsState-after_carry}

named-position : (p : Option Position) (name : ℕ) → name_at p ≡ Some name → p ≡ Some (Holds name)
named-position (Some (Holds other)) name e = ap (λ n. Some (Holds n)) (let same : other ≡ name = cc in same)
named-position _ name e = absurd (cc)

-- who holds a name was granted it, with the base
granted-name : (s : State) → IsState s → (client name : ℕ) → name_in s client ≡ Some name
    → 1 ≤ granted_in_state s client ((name + s.base) % s.network.table.width) ((name + s.base) / s.network.table.width) (name + s.base)
granted-name s is client name e =
    let w : ℕ = s.network.table.width in
    let n : ℕ = name + s.base in
    let (least, most) = is.network.formed.width in
    let below : n % w < w = mod_below n w (omega arith) in
    let found = count-pair-found (holds s.base n) client s.clients (Holds name) (named-position (position_in s.clients client) name e)
    (is.once client) in
    let one : ◌≡◌ {A = ℕ} (cond (holds s.base n (Holds name)) 1 0) 1 = ap {B = ℕ} (λ b. cond b 1 0) (eq-eqb n n refl) in
    rw (lt-ltb (n % w) w below, eq-eqb (name_of w (n % w) (n / w)) n (name_of-exit_of w n)) (omega (arith, found, one))

pub bounded-state : (s : State) → IsCore s → IsBoundedState s
bounded-state s is =
    let (h, earlier, a, sound) = is.reached in
    let l : Ledger = state_ledger s h (carried_by s.network.table earlier) in
    let b = bounded s.network.table is.state.network.formed is.state.network.counts l sound in
    let w : ℕ = s.network.table.width in
    record {
      passes = λ f brings. b.passes f brings.0 brings.1;
      counts = b.counts;
      carried = is.state.shares;
      entries = λ entry within. sum-below-part s.network.table.entries entry (λ e. slice_index s.entered e) within;
      ends = counts-few s.network.table is.state.network.formed l sound;
      below = λ client name e.
          let n : ℕ = name + s.base in
          omega (arith, b.names client (n % w) (n / w) n (granted-name s is.state client name e), is.state.all);
      distinct = λ client other name e f.
          let n : ℕ = name + s.base in
          (names-differ s.network.table l sound client other (n % w) (n % w) (n / w) (n / w) n n
          (granted-name s is.state client name e) (granted-name s is.state other name f) refl).0;
    }

-- who stands on a wire is inside
pub on-inside : (u : ℕ) (clients : List (ℕ × Position)) → count_by (is_on u) (values_of clients) ≤ count_by is_inside (values_of clients)
on-inside u [] = omega arith
on-inside u ((c, On wire) ∷ rest) =
    let a = count-cons (is_on u) (On wire) (values_of rest) in let b = count-cons is_inside (On wire) (values_of rest) in
    grind (arith, nat_tests, on-inside u rest)
on-inside u ((c, Holds name) ∷ rest) =
    let a = count-cons (is_on u) (Holds name) (values_of rest) in let b = count-cons is_inside (Holds name) (values_of rest) in
    omega (arith, on-inside u rest)

-- the grants are those of the clients that hold names
length-grants-in : (clients : List (ℕ × Position)) → length (grants_of_clients clients) ≡ count_by is_named (values_of clients)
length-grants-in [] = refl
length-grants-in ((c, On wire) ∷ rest) = omega (arith, length-grants-in rest, count-cons is_named (On wire) (values_of rest))
length-grants-in ((c, Holds name) ∷ rest) = omega (arith, length-grants-in rest, count-cons is_named (Holds name) (values_of rest))

clients-grants-in : (q : ℕ) (clients : List (ℕ × Position))
    → count_by (λ grant. nat_eq q grant.1) (grants_of_clients clients) ≤ times_entered q clients
clients-grants-in q [] = omega arith
clients-grants-in q ((c, On wire) ∷ rest) = omega (arith, clients-grants-in q rest, count-cons (λ e. nat_eq q e.0) (c, On wire) rest)
clients-grants-in q ((c, Holds name) ∷ rest) =
    let grants = count-cons (λ (grant : ℕ × ℕ). nat_eq q grant.1) (name, c) (grants_of_clients rest) in
    omega (arith, clients-grants-in q rest, count-cons (λ e. nat_eq q e.0) (c, Holds name) rest)

eqb-shift : (m n base : ℕ) → (m + base == n + base) ≡ (m == n)
eqb-shift m n base = grind (arith, nat_tests)

names-grants-in : (base n : ℕ) (clients : List (ℕ × Position))
    → times n (map (λ grant. grant.0) (grants_of_clients clients)) ≡ count_by (holds base (n + base)) (values_of clients)
names-grants-in base n [] = times-nil n
names-grants-in base n ((c, On wire) ∷ rest) =
    omega (arith, names-grants-in base n rest, count-cons (holds base (n + base)) (On wire) (values_of rest))
names-grants-in base n ((c, Holds name) ∷ rest) =
    let here = times-cons n name (map (λ grant. grant.0) (grants_of_clients rest)) in
    grind (arith, nat_tests, names-grants-in base n rest, count-cons (holds base (n + base)) (Holds name) (values_of rest))

-- a name from the base on was not given before
not-before : (base w n : ℕ) → n % w < w → base ≤ n → once_below (share base w (n % w)) (n / w) ≡ 0
not-before base w n below from =
    grind (arith, nat_tests, (name-below base w (n % w) (n / w) below).0, name_of-exit_of w n)

-- and is among all that came exactly where, less the base, it is among those of the epoch
once-shift : (base k n all : ℕ) → all ≡ base + k → once_below all (n + base) ≡ once_below k n
once-shift base k n all e = grind (arith, nat_tests)

pub tight-state : (s : State) → IsCore s → inside_in s ≡ 0 → IsTightState s
tight-state s is none =
    let (h, earlier, a, sound) = is.reached in
    let l : Ledger = state_ledger s h (carried_by s.network.table earlier) in
    let quiet : IsQuiescent s.network.table l = λ u within. omega (arith, on-inside u s.clients) in
    let t = tight s.network.table is.state.network.formed is.state.network.counts l sound quiet in
    let w : ℕ = s.network.table.width in
    let (least, most) = is.state.network.formed.width in
    record {
      counts = t.counts;
      everyone = omega (arith, length-grants-in s.clients, inside-or-named s.clients);
      tight = record {
        clients = λ q. omega (arith, clients-grants-in q s.clients, is.state.once q);
        names = each_below (length s.clients) (map (λ grant. grant.0) (grants_of_clients s.clients)) (λ n.
            let m : ℕ = n + s.base in
            let below : m % w < w = mod_below m w (omega arith) in
            let before : given_before s (m % w) (m / w) ≡ 0 = not-before s.base w m below (omega arith) in
            let given : times_given s.network.table l m ≡ given_before s (m % w) (m / w) + count_by (holds s.base m) (values_of s.clients) =
            rw (lt-ltb (m % w) w below, name_of-exit_of w m) refl in
            let among : once_below (came_in s) m ≡ once_below (length s.clients) n =
            once-shift s.base (length s.clients) n (came_in s) is.state.all in
            omega (arith, names-grants-in s.base n s.clients, given, t.names m, before, among));
      };
    }

-- each count has room for one more
pub room-entered : (s : State) → IsState s → (entry : ℕ) → entry < s.network.table.entries → slice_index s.entered entry < MOST_ARRIVALS
room-entered s is entry within =
    omega (arith, is.few, is.carried, is.all, sum-below-part s.network.table.entries entry (λ e. slice_index s.entered e) within)

pub room-past : (s : State) → IsCore s → (end : End) → Stands s.network.table end → past s end < MOST_ARRIVALS
room-past s is end there = omega (arith, is.state.few, is.state.carried, is.state.all, (bounded-state s is).ends end there)

-- ---- what is carried on

-- ---- client 0 stands for each client that is carried

both-there : (p q : Bool) (n : ℕ) → 1 ≤ when (p && q) n → (p ≡ true) × (q ≡ true)
both-there true true n h = (refl, refl)
both-there _ _ n h = absurd (omega arith)

no-more : (p q z : Bool) (n : ℕ) → when (p && q) (when z n + 0) ≤ when p (n + 0)
no-more true true true n = omega arith
no-more _ _ _ n = omega arith

not-both : (c d : ℕ) → c ≢ d → (p q : Bool) (n : ℕ)
    → when (p && q) (when (0 == c) n + 0) + when (p && q) (when (0 == d) n + 0) ≤ when p (n + 0)
not-both c d differ p q n = grind (arith, nat_tests, cases_Bool p, cases_Bool q)

-- ---- the ledger that the next epoch begins with

module _ (s : State) (h : List Event) (earlier : List (List Event)) (is : IsCore s) (quiet : inside_in s ≡ 0)
    (a : AgreesAfter s h (carried_by s.network.table earlier))
    (sound : IsSound s.network.table (state_ledger s h (carried_by s.network.table earlier))) where
  abbrev w : ℕ
  w = s.network.table.width

  abbrev next : Carried
  next = carried_by s.network.table (h ∷ earlier)

  abbrev old : Ledger
  old = state_ledger s h (carried_by s.network.table earlier)

  abbrev new : Ledger
  new = state_ledger (after_carry s) [] next

  -- what has left by an exit is its share of the base
  shared : (i : ℕ) → i < w → slice_index s.visits i ≡ share (s.base + length s.clients) w i
  shared i within = (tight-state s is quiet).counts i within ∙ ap (λ m. share m w i) is.state.all

  numbered : (end : End) (n : ℕ) → Stands s.network.table end → new.given end n ≡ once_below (past (after_carry s) end) n
  numbered (Balancer b) n there = let same = ap (λ m. once_below m n) (a.counts (Balancer b)) in omega arith
  numbered (Exit i) n there =
      let same = ap (λ m. once_below m n) (shared i there) in
      rw (lt-ltb i w there) (omega arith)

  none-on : (end : End) → sum_at s.network.table end old.on ≡ sum_at s.network.table end new.on
  none-on end = total-where-agree (is_end end) s.network.table.ends (Balancer 0) old.on new.on
      (λ u within at. omega (arith, on-inside u s.clients))

  balanced : (end : End) → Stands s.network.table end
      → past (after_carry s) end + sum_at s.network.table end new.on ≡ sum_at s.network.table end (put s.network.table new)
  balanced (Balancer b) there = let was = sound.balanced (Balancer b) there in omega (arith, was, none-on (Balancer b))
  balanced (Exit i) there = let was = sound.balanced (Exit i) there in omega (arith, was, none-on (Exit i))

  pub sound-carried : IsSound s.network.table new
  sound-carried = record {
    balanced = balanced;
    clients = λ u. (0, λ k l. sum-below-zero k (λ _. 0) (λ _. refl));
    numbered = numbered;
    named = λ c i v name g.
        let (p, q) = both-there (nat_lt i w) (name_of w i v == name) (when (0 == c) (given_before (after_carry s) i v) + 0) g in
        (ltb-true i w p, sym (eqb-true (name_of w i v) name q));
    once = λ c i v name. no-more (nat_lt i w) (name_of w i v == name) (0 == c) (given_before (after_carry s) i v);
    distinct = λ c d i v differ. not-both c d differ (nat_lt i w) (name_of w i v == name_of w i v) (given_before (after_carry s) i v);
    owned = λ i v within g. (0, rw (lt-ltb i w within, eq-eqb (name_of w i v) (name_of w i v) refl) (rw (lt-ltb i w within) at g));
  }

pub IsCore-after_carry : (s : State) → IsCore s → inside_in s ≡ 0 → s.base + length s.clients ≤ MOST_CARRIED → IsCore (after_carry s)
IsCore-after_carry s is quiet room =
    let (h, earlier, (epochs, a), sound) = is.reached in
    record {
      state = IsState-after_carry s is.state room (tight-state s is quiet).counts;
      reached = ([], h ∷ earlier, Agrees-after_carry s h earlier quiet (epochs, a), sound-carried s h earlier is quiet a sound);
    }

-- each exit has let out its share of the base
pub visits-after-carry : (s : State) → IsCore s → inside_in s ≡ 0 → (i : ℕ) → i < s.network.table.width
    → slice_index s.visits i ≡ share (s.base + length s.clients) s.network.table.width i
visits-after-carry s is quiet i within = (tight-state s is quiet).counts i within ∙ ap (λ m. share m s.network.table.width i) is.state.all
