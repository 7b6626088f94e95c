-- What a lane holds is what its view says, also after a sweep.
use Rattle.cn_floor.proofs.Common.{◌≡◌, ◌≢◌, ℕ, ◌+◌, ◌-◌, ◌*◌, ◌%◌, ◌<◌, ◌≤◌, List, [], ◌∷◌, ◌++◌, length, refl, sym, ap, ◌∙◌, subst, arith, append-nil, length-append, vec_capacity, AreLetBy, Balancer, End, Exit, FloorValue, Grant, LaneValue, Start, View, Yard, after_step, after_sweep, append_assoc, base, end_of, length-map-range_with_len, name_of, on, output_wire, times_in, tokens_in, Deals, Frees, IsCleared, IsDealt, out_of, once-gone, others-on, rest-on, Inside, IsLane, FitsLanes, PutsAll, SweepsOn, after_steps, grants_out, sweep_at, nat_tests}
use Rattle.cn_floor.specs.declared.view.Sweep.{Sweep}
use Rattle.cn_floor.proofs.InLane.Lanes.{freed-lists, moved-lists}
use Rattle.cn_floor.proofs.InLane.Outs.{grants-many}

-- ---- what tokens that go by leave as it was

pub record IsKin (v w : View) : Type 0 where
  pub start : w.start ≡ v.start
  pub quota : w.quota ≡ v.quota
  pub entries : w.entries ≡ v.entries
  pub came : w.came ≡ v.came
  pub seen : w.seen ≡ v.seen
  pub loads : w.loads ≡ v.loads
  pub wires : length w.tokens ≡ length v.tokens

pub kin : (end : End) (n token client : ℕ) (v : View) → IsKin v (after_step token client end n v)
kin (Balancer b) n token client v = search length-map-range_with_len
kin (Exit i) n token client v = search length-map-range_with_len

pub kin-by : (end : End) (n : ℕ) (tokens : List (ℕ × ℕ)) (v : View) → IsKin v (after_steps end n tokens v)
unfolding after_steps
kin-by end n [] v = search
kin-by end n (e ∷ rest) v =
    let one = kin end n e.0 e.1 v in
    let more = kin-by end (n + 1) rest (after_step e.0 e.1 end n v) in
    search

-- ---- grants

pub grants-kept : (b n : ℕ) (tokens : List (ℕ × ℕ)) (v : View) → (after_steps (Balancer b) n tokens v).grants ≡ v.grants
unfolding after_steps
grants-kept b n [] v = refl
grants-kept b n (e ∷ rest) v = grants-kept b (n + 1) rest (after_step e.0 e.1 (Balancer b) n v)

pub grants-left : (i n : ℕ) (tokens : List (ℕ × ℕ)) (v : View)
    → (after_steps (Exit i) n tokens v).grants ≡ v.grants ++ grants_out v.start.network.table.width (base v.start) i n tokens
unfolding after_steps grants_out
grants-left i n [] v = sym (append-nil v.grants)
grants-left i n (e ∷ rest) v =
    let grant : Grant = record { client = e.1; exit = i; visit = n; name = name_of v.start.network.table.width i n - base v.start } in
    grants-left i (n + 1) rest (after_step e.0 e.1 (Exit i) n v)
    ∙ append_assoc v.grants (grant ∷ []) (grants_out v.start.network.table.width (base v.start) i (n + 1) rest)

-- ---- tokens

pub dealt-tokens : (outs : ℕ → ℕ) (b n p : ℕ) (tokens : List (ℕ × ℕ)) (y z : Yard) (v : View) → y.lists ≡ v.tokens
    → ((q : ℕ) → outs (q % 2) ≡ output_wire v.start.network.table b (q % 2)) → p % 2 ≡ n % 2 → Deals outs p tokens y z
    → z.lists ≡ (after_steps (Balancer b) n tokens v).tokens
unfolding after_steps Deals
dealt-tokens outs b n p [] y z v same at turn deals = ap (λ (x : Yard). x.lists) deals ∙ same
dealt-tokens outs b n p (e ∷ rest) y z v same at turn (between, moves, later) =
    let to : outs (p % 2) ≡ output_wire v.start.network.table b (n % 2) = at p ∙ ap (output_wire v.start.network.table b) turn in
    dealt-tokens outs b (n + 1) (p + 1) rest between z (after_step e.0 e.1 (Balancer b) n v)
    (moved-lists y between v e.0 e.1 b n (outs (p % 2)) same to moves) at (omega (arith, turn)) later

pub freed-tokens : (i n : ℕ) (tokens : List (ℕ × ℕ)) (y z : Yard) (v : View) → y.lists ≡ v.tokens → Frees tokens y z
    → z.lists ≡ (after_steps (Exit i) n tokens v).tokens
unfolding after_steps Frees
freed-tokens i n [] y z v same frees = ap (λ (x : Yard). x.lists) frees ∙ same
freed-tokens i n (e ∷ rest) y z v same (between, released, later) =
    freed-tokens i (n + 1) rest between z (after_step e.0 e.1 (Exit i) n v) (freed-lists y between v e.0 e.1 i n same released) later

-- so many fewer stand in a yard, and so many more of its records are free
pub record IsFreed (y z : Yard) (many : ℕ) : Type 0 where
  pub wires : length z.lists ≡ length y.lists
  pub tokens : tokens_in z.lists + many ≡ tokens_in y.lists
  pub spare : z.spare ≡ y.spare + many

pub freed-all : (tokens : List (ℕ × ℕ)) (y z : Yard) → Frees tokens y z → IsFreed y z (length tokens)
unfolding Frees
freed-all [] y z same = rw same (search arith)
freed-all (e ∷ rest) y z (between, released, later) =
    let more = freed-all rest between z later in
    search arith

-- all tokens of a wire are freed: it is empty, and the others are as they were
freed-others : (wire : ℕ) (tokens : List (ℕ × ℕ)) (y z : Yard) → ((k : ℕ) → times_in y.lists k ≤ 1) → wire < length y.lists
    → on y.lists wire ≡ tokens → Frees tokens y z
    → (on z.lists wire ≡ []) × ((u : ℕ) → u ≢ wire → on z.lists u ≡ on y.lists u)
unfolding Frees
freed-others wire [] y z once inside is same =
    (ap (λ (x : Yard). on x.lists wire) same ∙ is, λ u other. ap (λ (x : Yard). on x.lists u) same)
freed-others wire (e ∷ rest) y z once inside is (between, one, more) =
    let left = one.lists wire ∙ rest-on y.lists e.0 e.1 wire rest once inside is in
    let still : (k : ℕ) → times_in between.lists k ≤ 1 =
    λ k. once-gone y.lists e.0 e.1 wire rest once inside is between.lists one.wires k one.lists in
    let (empty, others) = freed-others wire rest between z still (omega (arith, inside, one.wires)) left more in
    (empty, λ u other. others u other ∙ one.lists u ∙ others-on y.lists e.0 e.1 wire rest once inside is u other)

pub cleared : (wire : ℕ) (y z : Yard) → ((k : ℕ) → times_in y.lists k ≤ 1) → wire < length y.lists → Frees (on y.lists wire) y z
    → IsCleared wire y z
cleared wire y z once inside frees =
    let all = freed-all (on y.lists wire) y z frees in
    let (empty, others) = freed-others wire (on y.lists wire) y z once inside refl frees in
    record { wires = all.wires; empty = empty; others = others; spare = all.spare; tokens = all.tokens }

-- the two outputs of a balancer, as a lane deals to them
pub outs-are : (entries b out q : ℕ) → out ≡ entries + 2 * b → out_of out (out + 1) (q % 2) ≡ entries + 2 * b + q % 2
outs-are entries b out q is = grind (arith, nat_tests)

-- ---- the lane

module _ (old new : Inside) (wire n : ℕ) (kept : IsLane old) (home : new.post.home ≡ old.post.home) where
  abbrev v : View
  v = old.post.view

  abbrev tokens : List (ℕ × ℕ)
  tokens = on v.tokens wire

  there : on old.yard.lists wire ≡ tokens
  there = ap (λ (ls : List (List (ℕ × ℕ))). on ls wire) kept.tokens

  -- its tokens were dealt
  pub lane-dealt : (outs : ℕ → ℕ) (b p out0 out1 : ℕ) → new.post.view ≡ after_sweep wire (Balancer b) n v
      → Deals outs p (on old.yard.lists wire) old.yard new.yard
      → IsDealt wire p out0 out1 old.yard new.yard → ((q : ℕ) → outs (q % 2) ≡ output_wire v.start.network.table b (q % 2)) → p % 2 ≡ n % 2
      → new.grants ≡ old.grants → new.room ≡ old.room → IsLane new
  lane-dealt outs b p out0 out1 view deals dealt at turn grants room =
      let like = kin-by (Balancer b) n tokens v in
      record {
        tokens = dealt-tokens outs b n p tokens old.yard new.yard v kept.tokens at turn
            (subst (λ (es : List (ℕ × ℕ)). Deals outs p es old.yard new.yard) there deals)
            ∙ ap (λ (w : View). w.tokens) (sym view);
        grants = ap (λ g. g.items) grants ∙ kept.grants ∙ sym (grants-kept b n tokens v) ∙ ap (λ (w : View). w.grants) (sym view);
        small = subst FitsLanes (ap (λ (h : FloorValue). h.start) (sym home)) kept.small;
        few = omega (arith, kept.few, dealt.tokens, like.quota, ap (λ (w : View). w.quota) view);
        room = rw grants (omega (arith, kept.room, dealt.tokens));
      }

  -- its tokens left
  pub lane-left : (i width less : ℕ) → width ≡ v.start.network.table.width → less ≡ base v.start
      → new.post.view ≡ after_sweep wire (Exit i) n v → Frees (on old.yard.lists wire) old.yard new.yard
      → new.grants.items ≡ old.grants.items ++ grants_out width less i n (on old.yard.lists wire)
      → vec_capacity new.grants ≡ vec_capacity old.grants
      → new.room ≡ old.room → IsLane new
  lane-left i width less wide came view frees grants capacity room =
      let like = kin-by (Exit i) n tokens v in
      let all = freed-all (on old.yard.lists wire) old.yard new.yard frees in
      let many = ap length grants ∙ length-append old.grants.items (grants_out width less i n (on old.yard.lists wire)) in
      record {
        tokens = freed-tokens i n tokens old.yard new.yard v kept.tokens
            (subst (λ (es : List (ℕ × ℕ)). Frees es old.yard new.yard) there frees)
            ∙ ap (λ (w : View). w.tokens) (sym view);
        grants = grants ∙ (λ x. kept.grants x ++ grants_out (wide x) (came x) i n (there x)) ∙ sym (grants-left i n tokens v)
            ∙ ap (λ (w : View). w.grants) (sym view);
        small = subst FitsLanes (ap (λ (h : FloorValue). h.start) (sym home)) kept.small;
        few = omega (arith, kept.few, all.tokens, like.quota, ap (λ (w : View). w.quota) view);
        room = omega (arith, kept.room, all.tokens, many, capacity, room, grants-many width less i n (on old.yard.lists wire));
      }

-- ---- what a sweep answers

module _ (old new : LaneValue) (wire n : ℕ) (answer : Sweep) where
  abbrev start : Start
  start = old.home.start

  pub sweeps-on : (end : End) → end_of start.network.table wire ≡ end → new.home ≡ old.home → new.view ≡ after_sweep wire end n old.view
      → PutsAll start wire end n old.yard new.yard → new.room ≡ old.room → answer ≡ sweep_at end n (length (on old.yard.lists wire))
      → AreLetBy start old.view new.view wire end n → SweepsOn old new wire n answer
  sweeps-on end at home view yard room answered by = record {
    home = home;
    view = rw at view;
    yard = rw at yard;
    room = room;
    answered = rw at answered;
    by = rw at by;
  }
