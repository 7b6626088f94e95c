use Rattle.cn_floor.proofs.Common.{◌≡◌, ℕ, ◌+◌, ◌-◌, inl, inr, List, [], length, replicate, rules, sym, ap, ◌∙◌, subst, arith, FloorValue, IsClosed, LaneValue, Network, Start, View, WordsValue, base, cases_lt, clients_in, slots_items, tokens_in, words_in, words_before, IsMissing, IsClosedFloor, FitsLanes}
use Rattle.cn_floor.proofs.AtClose.Closings.{inside-yard}
use Rattle.cn_floor.proofs.AtClose.Rises.{all-empty}
use Rattle.cn_floor.proofs.InLane.Lanes.{home-start}
use Rattle.cn_floor.proofs.floor.Floor.end.Goals as goal

pub invariant_of-closed : goal.invariant_of-closed
invariant_of-closed c =
    let start : Start = c.self.inside.counters.start in
    let v : View = c.lane.inside.post.view in
    let ws : List ℕ = words_in c.close-table.result.1 (slots_items c.close-table.result.0.words) in
    let e = c.close-table.ensures.ending in
    let began = c.self.invariant.began in
    let network : c.network.result.now ≡ start.network = c.network.ensures ∙ ap (λ (w : WordsValue). w.network) c.self.invariant.before in
    let lane : c.of-kept.result.value ≡ c.args.lane = c.of-kept.ensures in
    let view : v ≡ c.of-kept.result.value.view = ap (λ (l : LaneValue). l.view) (c.lane.view_is ∙ sym lane) in
    let about : start ≡ c.of-kept.result.value.home.start =
    ap (λ (h : FloorValue). h.start) (c.self.view_is ∙ sym c.requires.own ∙ ap (λ (l : LaneValue). l.home) (sym lane)) in
    let small = subst FitsLanes (home-start c.lane.view_is c.requires.own c.self.view_is) c.lane.invariant.small in
    let nobody : tokens_in c.lane.inside.yard.lists ≡ 0 = search rules in
    let out : tokens_in v.tokens ≡ 0 = inside-yard c.lane.inside.yard v c.lane.invariant.tokens ∙ nobody in
    let clients = c.clients_of-clients.ensures ∙ ap (λ (n : Network). clients_in n.table ws) network in
    let granted : c.len-granted.result ≡ length v.grants = search rules in
    let came : clients_in start.network.table ws ≡ base start + length v.grants =
    omega (arith, e.granted, c.self.invariant.base, c.if-entered-granted.false) in
    let closed_floor : IsClosedFloor start v ws = e.closed_floor out came in
    let closed : IsClosed (record { network = start.network; words = ws; stride = start.stride }) = record {
      network = began.network;
      carried = closed_floor.closed;
      few = omega (arith, e.few, began.few, began.quota);
    } in
    record {
      spaced = c.close-table.ensures.spaced;
      full = c.close-table.ensures.whole.0;
      none = c.close-table.ensures.whole.1;
      closed_floor = subst (λ (z : Start × View). IsClosedFloor z.0 z.1 ws) (λ i. (about i, view i)) closed_floor;
      network = c.requires.network ∙ ap (λ (h : FloorValue). h.start.network) (sym c.self.view_is) ∙ ap (λ (s : Start). s.network) about;
      closed = subst (λ (s : Start). IsClosed (record { network = s.network; words = ws; stride = s.stride })) about closed;
      clients = clients ∙ ap (λ (s : Start). clients_in s.network.table ws) about;
      few = omega (arith, e.few, small.few, small.quota, ap (λ (s : Start). clients_in s.network.table ws) about);
      grants = c.lane.invariant.grants ∙ ap (λ (x : View). x.grants) view;
    }

pub invariant_of-leftovers : goal.invariant_of-leftovers
invariant_of-leftovers c =
    let nobody : tokens_in c.lane.inside.yard.lists ≡ 0 = search rules in
    let start : Start = c.self.inside.counters.start in
    let about : c.args.lane.home.start ≡ start = ap (λ (h : FloorValue). h.start) (c.requires.own ∙ sym c.self.view_is) in
    let before : c.self.inside.before.network ≡ start.network = ap (λ (w : WordsValue). w.network) c.self.invariant.before in
    let wires : length c.lane.inside.yard.lists ≡ length c.self.inside.before.network.table.ends =
    ap (λ (l : LaneValue). length l.yard.lists) c.lane.view_is ∙ c.lane_laws.ensures.wires
    ∙ ap (λ (s : Start). length s.network.table.ends) about
    ∙ ap (λ (x : Network). length x.table.ends) (sym before) in
    all-empty c.lane.inside.yard.lists nobody ∙ (λ x. replicate (wires x) [])

pub returns-clause-leftovers : goal.returns-clause-leftovers
returns-clause-leftovers c = c.self.invariant.before ∙ ap (λ (h : FloorValue). words_before h.start) c.self.view_is

pub returns-then-entered-granted-clause-refused : goal.returns-then-entered-granted-clause-refused
returns-then-entered-granted-clause-refused c =
    let start : Start = c.self.inside.counters.start in
    let v : View = c.lane.inside.post.view in
    let ws : List ℕ = words_in c.close-table.result.1 (slots_items c.close-table.result.0.words) in
    let e = c.close-table.ensures.ending in
    let entered : ℕ = c.clients_of-clients.result - c.self.inside.base in
    let network : c.network.result.now ≡ start.network = c.network.ensures ∙ ap (λ (w : WordsValue). w.network) c.self.invariant.before in
    let clients = c.clients_of-clients.ensures ∙ ap (λ (n : Network). clients_in n.table ws) network in
    let granted : c.len-granted.result ≡ length v.grants = search rules in
    let nobody : tokens_in c.lane.inside.yard.lists ≡ 0 = search rules in
    let out : tokens_in v.tokens ≡ 0 = inside-yard c.lane.inside.yard v c.lane.invariant.tokens ∙ nobody in
    let all = (e.in_state.kept.accounted e.in_state.id v e.in_state.here).all in
    let missing : IsMissing start v entered = record {
      state = e.state;
      in_state = e.in_state;
      came = ap (clients_in start.network.table) e.same ∙ omega (arith, clients, e.granted, c.self.invariant.base);
      more = omega (arith, clients, granted, e.granted, c.self.invariant.base, c.if-entered-granted.true);
      short = elim (cases_lt (v.quota + length v.entries) start.quota) [
        | inl less ↦ less
        | inr whole ↦
            let own = e.sole (omega (arith, whole, e.within)) in
            absurd (omega (arith, own, all, out, clients, granted, c.self.invariant.base, c.if-entered-granted.true))
      ];
    } in
    let about : start ≡ c.args.self.start = ap (λ (h : FloorValue). h.start) c.self.view_is in
    let view : v ≡ c.args.lane.view = ap (λ (l : LaneValue). l.view) c.lane.view_is in
    (search rules, search rules, search rules, subst (λ (z : Start × View). IsMissing z.0 z.1 entered) (λ i. (about i, view i)) missing)
