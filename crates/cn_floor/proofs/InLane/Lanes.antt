-- What a lane holds is what its view says, also after a step.
use Rattle.cn_floor.proofs.Common.{Global, Vec, ◌≡◌, ℕ, ◌+◌, ◌-◌, ◌%◌, ◌<◌, ◌≤◌, List, [], ◌∷◌, ◌++◌, length, get_or, Some, sym, ap, ◌∙◌, subst, arith, append-nil, vec_capacity, Balancer, End, Exit, FloorValue, Grant, IsLetBy, LaneValue, Start, View, after_enter, after_step, base, end_of, last_on, length_push, name_of, output_wire, tokens_in, without, Admits, Moves, Releases, standing, Moved, Inside, IsLane, PutsOn, StepsOn, FitsLanes, answer_at, Yard, Network, refl}
use Rattle.cn_floor.proofs.Lists.{made}

-- ---- a lane of a floor, as contracts see both, has the floor's start and network

module _ {lane seen : LaneValue} {floor : FloorValue} (held : lane ≡ seen) (own : seen.home ≡ floor) where
  pub home-start : {f : FloorValue} → f ≡ floor → lane.home.start ≡ f.start
  home-start is = ap (λ (l : LaneValue). l.home.start) held ∙ ap (λ (h : FloorValue). h.start) (own ∙ sym is)

  pub home-network : {network : Network} → network ≡ floor.start.network → lane.home.start.network ≡ network
  home-network is = ap (λ (s : Start). s.network) (home-start refl) ∙ sym is

  -- and a wire for each of the network
  pub home-wires : {network : Network} → length seen.yard.lists ≡ length seen.home.start.network.table.ends
      → network ≡ floor.start.network → length lane.yard.lists ≡ length network.table.ends
  home-wires wires is =
      ap (λ (l : LaneValue). length l.yard.lists) held ∙ wires
      ∙ ap (λ (h : FloorValue). length h.start.network.table.ends) own
      ∙ ap (λ (x : Network). length x.table.ends) (sym is)

  pub view-start : {f : FloorValue} → seen.view.start ≡ seen.home.start → f ≡ floor → lane.view.start ≡ f.start
  view-start began is =
      ap (λ (l : LaneValue). l.view.start) held ∙ began ∙ ap (λ (h : FloorValue). h.start) (own ∙ sym is)

  pub view-network : {network : Network} → seen.view.start ≡ seen.home.start → network ≡ floor.start.network
      → lane.view.start.network ≡ network
  view-network began is = ap (λ (s : Start). s.network) (view-start began refl) ∙ sym is

-- ---- the lists of a yard whose token goes to a wire, or out

pub moved-lists : (y z : Yard) (v : View) (token client b n to : ℕ) → y.lists ≡ v.tokens
    → to ≡ output_wire v.start.network.table b (n % 2) → Moves y z token client to
    → z.lists ≡ (after_step token client (Balancer b) n v).tokens
moved-lists y z v token client b n to same at moves =
    made v.tokens (λ u. without token (get_or v.tokens u []) ++ last_on token client (output_wire v.start.network.table b (n % 2)) u)
    z.lists (moves.wires ∙ ap length same)
    (λ u. moves.lists u ∙ (λ i. without token (get_or (same i) u []) ++ last_on token client (at i) u))

pub freed-lists : (y z : Yard) (v : View) (token client i n : ℕ) → y.lists ≡ v.tokens → Releases y z token
    → z.lists ≡ (after_step token client (Exit i) n v).tokens
freed-lists y z v token client i n same released =
    made v.tokens (λ u. without token (get_or v.tokens u []) ++ []) z.lists (released.wires ∙ ap length same)
    (λ u. released.lists u ∙ ap (λ (ls : List (List (ℕ × ℕ))). without token (get_or ls u [])) same
    ∙ sym (append-nil (without token (get_or v.tokens u []))))

-- ---- the lane

module _ (old new : Inside) (token client : ℕ) (kept : IsLane old) (home : new.post.home ≡ old.post.home) where
  abbrev v : View
  v = old.post.view

  -- a client came in
  pub lane-in : (entry : ℕ) → new.post.view ≡ after_enter token client entry v → Admits old.yard new.yard token client entry
      → new.grants ≡ old.grants → 0 < v.quota → new.room ≡ old.room - 1
      → length old.grants.items + tokens_in old.yard.lists + 1 ≤ vec_capacity old.grants → IsLane new
  lane-in entry view yard grants some room fit = record {
    tokens =
        made v.tokens (λ u. get_or v.tokens u [] ++ last_on token client entry u) new.yard.lists
        (yard.wires ∙ ap length kept.tokens)
        (λ u. yard.lists u ∙ (λ i. get_or (kept.tokens i) u [] ++ last_on token client entry u))
        ∙ ap (λ (w : View). w.tokens) (sym view);
    grants = ap (λ g. g.items) grants ∙ kept.grants ∙ ap (λ (w : View). w.grants) (sym view);
    small = subst FitsLanes (ap (λ (h : FloorValue). h.start) (sym home)) kept.small;
    few = omega (arith, kept.few, some, yard.tokens, ap (λ (w : View). w.quota) view);
    room = rw grants (omega (arith, kept.room, yard.tokens));
  }

  -- a token passed a balancer
  pub lane-on : (b n to : ℕ) → to ≡ output_wire v.start.network.table b (n % 2) → new.post.view ≡ after_step token client (Balancer b) n v
      → Moves old.yard new.yard token client to
      → new.grants ≡ old.grants → new.room ≡ old.room → IsLane new
  lane-on b n to at view yard grants room = record {
    tokens = moved-lists _ new.yard v token client b n to kept.tokens at yard ∙ ap (λ (w : View). w.tokens) (sym view);
    grants = ap (λ g. g.items) grants ∙ kept.grants ∙ ap (λ (w : View). w.grants) (sym view);
    small = subst FitsLanes (ap (λ (h : FloorValue). h.start) (sym home)) kept.small;
    few = omega (arith, kept.few, yard.tokens, ap (λ (w : View). w.quota) view);
    room = rw grants (omega (arith, kept.room, yard.tokens));
  }

  -- a token left
  pub lane-out : (i n name : ℕ) → name ≡ name_of v.start.network.table.width i n - base v.start
      → new.post.view ≡ after_step token client (Exit i) n v → Releases old.yard new.yard token
      → new.grants.items ≡ old.grants.items ++ record { client = client; exit = i; visit = n; name = name } ∷ []
      → vec_capacity new.grants ≡ vec_capacity old.grants
      → new.room ≡ old.room → IsLane new
  lane-out i n name named view yard grants capacity room = record {
    tokens = freed-lists old.yard new.yard v token client i n kept.tokens yard ∙ ap (λ (w : View). w.tokens) (sym view);
    grants = grants ∙ (λ x. kept.grants x ++ record { client = client; exit = i; visit = n; name = named x } ∷ [])
        ∙ ap (λ (w : View). w.grants) (sym view);
    small = subst FitsLanes (ap (λ (h : FloorValue). h.start) (sym home)) kept.small;
    few = omega (arith, kept.few, yard.tokens, ap (λ (w : View). w.quota) view);
    room = omega (
      arith,
      kept.room,
      yard.tokens,
      ap (λ gs. length gs) grants,
      length_push old.grants.items (record { client = client; exit = i; visit = n; name = name }),
    );
  }

-- ---- what a step answers

module _ (old new : LaneValue) (token client wire n : ℕ) (answer : Moved) where
  abbrev start : Start
  start = old.home.start

  pub steps-on : (end : End) → end_of start.network.table wire ≡ end → standing old.yard.lists token ≡ Some (wire, client)
      → new.home ≡ old.home
      → new.view ≡ after_step token client end n old.view → PutsOn start end n old.yard new.yard token client → new.room ≡ old.room
      → answer ≡ answer_at start end n → IsLetBy start old.view new.view client end n → StepsOn old new token client wire n answer
  steps-on end at stood home view yard room answered let_by = record {
    stood = stood;
    home = home;
    view = rw at view;
    yard = rw at yard;
    room = room;
    answered = rw at answered;
    step = rw answered let_by.step;
    few = let_by.few;
    sole = rw at let_by.sole;
  }

-- a lane whose list of grants got way for more keeps what it kept
pub lane-with-way : (l : Inside) (grants : Vec Grant Global) → IsLane l → grants.items ≡ l.grants.items
    → length grants.items + tokens_in l.yard.lists + l.room ≤ vec_capacity grants
    → IsLane (record { post = l.post; yard = l.yard; grants = grants; room = l.room })
lane-with-way l grants kept items room = search
