use Rattle.cn_floor.proofs.Common.{◌≡◌, ℕ, ◌+◌, ◌*◌, ◌%◌, ◌<◌, ◌≤◌, length, refl, arith, sym, ap, ◌∙◌, subst, AreLetBy, Balancer, End, Exit, FloorValue, LaneValue, LeadsOn, Lists, Network, Stands, Start, View, after_sweep, base, end_of, lane_of, name_of, on, output_wire, sum-below-part, times_in, IsDealt, out_of, FitsLanes}
use Rattle.cn_floor.specs.declared.view.Sweep.TheVariants.{On, Out}
use Rattle.cn_floor.proofs.InLane.Swept.{cleared, lane-dealt, lane-left, outs-are, sweeps-on}
use Rattle.cn_floor.proofs.InLane.Yards.{some-inside}
use Rattle.cn_floor.proofs.InLane.Lanes.{home-network, home-wires, home-start, view-network, view-start}
use Rattle.cn_floor.proofs.InLane.Named.{name-small}
use Rattle.cn_floor.proofs.floor.Floor.sweep.Goals as goal

pub count-requires : goal.count-requires
count-requires c = some-inside c.lane.inside.yard.lists c.args.wire (rw (← c.lane.view_is) at c.requires.some)

pub sweep-first-requires : goal.sweep-first-requires
sweep-first-requires c =
    let start : Start = c.self.inside.counters.start in
    let inside = some-inside c.lane.inside.yard.lists c.args.wire (rw (← c.lane.view_is) at c.requires.some) in
    let same : start.network ≡ c.args.self.now.start.network =
    ap (λ (h : FloorValue). h.start.network) c.self.view_is in
    let network : c.network-network.result.now ≡ start.network = c.network-network.ensures.value ∙ sym same in
    let ends = home-wires c.lane.view_is c.requires.own c.lane_laws.ensures.wires same in
    record {
      own = ap (λ (l : LaneValue). l.home) c.lane.view_is ∙ c.requires.own ∙ sym c.self.view_is;
      sweeping = refl;
      once = λ token. subst (λ (ls : Lists). times_in ls token ≤ 1)
          (ap (λ (l : LaneValue). l.yard.lists) (sym c.lane.view_is) ∙ c.lane.invariant.tokens)
          (c.lane_laws.ensures.once token);
      tokens = ap (λ (ls : Lists). length (on ls c.args.wire)) (sym c.lane.invariant.tokens)
          ∙ sym (c.from-tokens.ensures ∙ c.count.ensures);
      wire = omega (arith, inside, ends);
      ends = ap (λ (x : Network). end_of x.table c.args.wire) (sym network) ∙ c.end-end.ensures.at;
      stands = subst (λ (x : Network). Stands x.table c.end-end.result) network c.end-end.ensures.there;
    }

pub deal-requires : goal.deal-requires
deal-requires c =
    let lists = c.lane.inside.yard.lists in
    let network : Network = c.network-network.result.now in
    let formed = c.end-end.ensures.network.formed in
    let inside : c.args.wire < length lists = some-inside lists c.args.wire (rw (← c.lane.view_is) at c.requires.some) in
    let ends = home-wires c.lane.view_is c.requires.own c.lane_laws.ensures.wires c.network-network.ensures.value in
    let forward : c.args.wire < network.table.entries + 2 * c.in-Balancer.balancer =
    subst (LeadsOn network.table c.args.wire) (c.end-end.ensures.at ∙ c.in-Balancer.is)
    (formed.forward c.args.wire (omega (arith, inside, ends))) in
    let before : c.args.wire < c.entries.result + 2 * c.in-Balancer.balancer = omega (arith, forward, c.entries.ensures.value) in
    let stands = subst (Stands network.table) c.in-Balancer.is c.end-end.ensures.there in
    let out : c.entries.result + 2 * c.in-Balancer.balancer + 1 < length lists =
    omega (arith, stands, ends, formed.wires, c.entries.ensures.value) in
    record {
      wires = (inside, omega (arith, out), out);
      distinct = (λ e. omega (arith, e, before), λ e. omega (arith, e, before), λ e. omega (arith, e));
      output = omega (arith, c.output_of.ensures);
    }

pub leave_all-requires-clause-wire : goal.leave_all-requires-clause-wire
leave_all-requires-clause-wire c = some-inside c.lane.inside.yard.lists c.args.wire (rw (← c.lane.view_is) at c.requires.some)

pub leave_all-requires-clause-exit : goal.leave_all-requires-clause-exit
leave_all-requires-clause-exit c =
    let stands : Stands c.network-network.result.now.table (Exit c.in-Exit.exit) =
    subst (λ (e : End). Stands c.network-network.result.now.table e) c.in-Exit.is c.end-end.ensures.there in
    omega (arith, c.width-width.ensures.value, stands)

pub leave_all-requires-clause-high : goal.leave_all-requires-clause-high
leave_all-requires-clause-high c =
    let start : Start = c.self.inside.counters.start in
    let i : ℕ = c.in-Exit.exit in
    let network : c.network-network.result.now ≡ start.network =
    c.network-network.ensures.value ∙ ap (λ (h : FloorValue). h.start.network) (sym c.self.view_is) in
    let width = c.width-width.ensures.value ∙ ap (λ (x : Network). x.table.width) network in
    let small = subst FitsLanes (home-start c.lane.view_is c.requires.own c.self.view_is) c.lane.invariant.small in
    let stands : i < start.network.table.width =
    subst (λ (x : Network × End). Stands x.0.table x.1) (λ k. (network k, c.in-Exit.is k)) c.end-end.ensures.there in
    let many = ap (λ (ls : Lists). length (on ls c.args.wire)) c.lane.invariant.tokens in
    omega (
      arith,
      name-small start i (c.sweep-first.result + length (on c.lane.inside.post.view.tokens c.args.wire)) c.self.invariant.began small stands
          c.sweep-first.ensures.went.1.few,
      ap (λ (k : ℕ). name_of start.network.table.width i (c.sweep-first.result + k)) many,
      ap (λ (k : ℕ). name_of k i (c.sweep-first.result + length (on c.lane.inside.yard.lists c.args.wire))) width,
    )

pub leave_all-requires-clause-low : goal.leave_all-requires-clause-low
leave_all-requires-clause-low c =
    let start : Start = c.self.inside.counters.start in
    let i : ℕ = c.in-Exit.exit in
    let n : ℕ = c.sweep-first.result in
    let width : c.width-width.result ≡ start.network.table.width =
    c.width-width.ensures.value ∙ ap (λ (x : Network). x.table.width)
    (c.network-network.ensures.value ∙ ap (λ (h : FloorValue). h.start.network) (sym c.self.view_is)) in
    let late : base start ≤ name_of start.network.table.width i n = c.sweep-first.ensures.went.1.late i c.in-Exit.is in
    omega (arith, late, c.self.invariant.base, ap (λ (w : ℕ). name_of w i n) width)

pub leave_all-requires-clause-room : goal.leave_all-requires-clause-room
leave_all-requires-clause-room c =
    let lists = c.lane.inside.yard.lists in
    let inside : c.args.wire < length lists = some-inside lists c.args.wire (rw (← c.lane.view_is) at c.requires.some) in
    omega (arith, c.lane.invariant.room, sum-below-part (length lists) c.args.wire (λ u. length (on lists u)) inside)

pub invariant_of-lane : goal.invariant_of-lane
invariant_of-lane c =
    let v : View = c.lane.inside.post.view in
    let n : ℕ = c.sweep-first.result in
    let began = c.lane_laws.ensures.start in
    let network = view-network c.lane.view_is c.requires.own began c.network-network.ensures.value in
    let b : ℕ = c.in-Balancer.balancer in
    let out : ℕ = c.entries.result + 2 * b in
    let entries = c.entries.ensures.value ∙ sym (ap (λ (x : Network). x.table.entries) network) in
    let went : c.sweep-first.new.post.view ≡ after_sweep c.args.wire (Balancer b) n v =
    c.sweep-first.ensures.went.0 ∙ ap (λ (e : End). after_sweep c.args.wire e n v) c.in-Balancer.is in
    lane-dealt c.lane.inside _ c.args.wire n c.lane.invariant c.sweep-first.ensures.home (out_of out (out + 1)) b c.output_of.result out
    (out + 1) went
    c.deal.ensures.moves c.deal.ensures.dealt (λ q. outs-are v.start.network.table.entries b out q (omega (arith, entries)))
    (omega (arith, c.output_of.ensures)) refl refl

pub invariant_of-lane-in-Exit : goal.invariant_of-lane-in-Exit
invariant_of-lane-in-Exit c =
    let v : View = c.lane.inside.post.view in
    let n : ℕ = c.sweep-first.result in
    let begun = view-start c.lane.view_is c.requires.own c.lane_laws.ensures.start c.self.view_is in
    let began = c.lane_laws.ensures.start in
    let network = view-network c.lane.view_is c.requires.own began c.network-network.ensures.value in
    let i : ℕ = c.in-Exit.exit in
    let width = c.width-width.ensures.value ∙ sym (ap (λ (x : Network). x.table.width) network) in
    let base_is : c.self.inside.base ≡ base v.start = c.self.invariant.base ∙ sym (ap (λ (s : Start). base s) begun) in
    let went = c.sweep-first.ensures.went.0 ∙ ap (λ (e : End). after_sweep c.args.wire e n v) c.in-Exit.is in
    lane-left c.lane.inside _ c.args.wire n c.lane.invariant c.sweep-first.ensures.home i c.width-width.result c.self.inside.base width
    base_is went
    c.leave_all.ensures.freed c.leave_all.ensures.granted c.leave_all.ensures.capacity refl

pub returns-in-Balancer : goal.returns-in-Balancer
returns-in-Balancer c =
    let v : View = c.lane.inside.post.view in
    let n : ℕ = c.sweep-first.result in
    let begun = home-start c.lane.view_is c.requires.own c.self.view_is in
    let network = home-network c.lane.view_is c.requires.own c.network-network.ensures.value in
    let b : ℕ = c.in-Balancer.balancer in
    let out : ℕ = c.entries.result + 2 * b in
    let entries = c.entries.ensures.value ∙ sym (ap (λ (x : Network). x.table.entries) network) in
    let went : c.sweep-first.new.post.view ≡ after_sweep c.args.wire (Balancer b) n v =
    c.sweep-first.ensures.went.0 ∙ ap (λ (e : End). after_sweep c.args.wire e n v) c.in-Balancer.is in
    let at : end_of c.lane.inside.post.home.start.network.table c.args.wire ≡ Balancer b =
    ap (λ (x : Network). end_of x.table c.args.wire) network ∙ c.end-end.ensures.at ∙ c.in-Balancer.is in
    let first : out ≡ output_wire c.lane.inside.post.home.start.network.table b 0 = omega (arith, entries) in
    let second : out + 1 ≡ output_wire c.lane.inside.post.home.start.network.table b 1 = omega (arith, entries) in
    let dealt : IsDealt c.args.wire (n % 2) (output_wire c.lane.inside.post.home.start.network.table b 0)
    (output_wire c.lane.inside.post.home.start.network.table b 1)
    c.lane.inside.yard c.deal.new.self =
    rw (← first, ← second, ← c.output_of.ensures) c.deal.ensures.dealt in
    let many : c.from-tokens.result ≡ length (on c.lane.inside.yard.lists c.args.wire) = c.from-tokens.ensures ∙ c.count.ensures in
    rw (← c.lane.view_is) (
      n,
      sweeps-on (lane_of c.lane.inside) _ c.args.wire n _ (Balancer b) at
          c.sweep-first.ensures.home went dealt refl
          (ap (λ (k : ℕ). On b n k) many)
          (subst (λ (e : End). AreLetBy c.lane.inside.post.home.start v c.sweep-first.new.post.view c.args.wire e n) c.in-Balancer.is
          (subst (λ (s : Start). AreLetBy s v c.sweep-first.new.post.view c.args.wire c.end-end.result n) (sym begun)
          c.sweep-first.ensures.went.1)),
    )

pub returns-in-Exit : goal.returns-in-Exit
returns-in-Exit c =
    let v : View = c.lane.inside.post.view in
    let n : ℕ = c.sweep-first.result in
    let begun = home-start c.lane.view_is c.requires.own c.self.view_is in
    let network = home-network c.lane.view_is c.requires.own c.network-network.ensures.value in
    let i : ℕ = c.in-Exit.exit in
    let width = c.width-width.ensures.value ∙ sym (ap (λ (x : Network). x.table.width) network) in
    let base_is = c.self.invariant.base ∙ sym (ap (λ (s : Start). base s) begun) in
    let went = c.sweep-first.ensures.went.0 ∙ ap (λ (e : End). after_sweep c.args.wire e n v) c.in-Exit.is in
    let at = ap (λ (x : Network). end_of x.table c.args.wire) network ∙ c.end-end.ensures.at ∙ c.in-Exit.is in
    let many : c.from-tokens.result ≡ length (on c.lane.inside.yard.lists c.args.wire) = c.from-tokens.ensures ∙ c.count.ensures in
    let lists = c.lane.inside.yard.lists in
    let inside : c.args.wire < length lists = some-inside lists c.args.wire (rw (← c.lane.view_is) at c.requires.some) in
    let once : (k : ℕ) → times_in lists k ≤ 1 =
    λ k. subst (λ (l : LaneValue). times_in l.yard.lists k ≤ 1) (sym c.lane.view_is) (c.lane_laws.ensures.once k) in
    rw (← c.lane.view_is) (
      n,
      sweeps-on (lane_of c.lane.inside) _ c.args.wire n _ (Exit i) at
          c.sweep-first.ensures.home went
          (cleared c.args.wire c.lane.inside.yard _ once inside c.leave_all.ensures.freed) refl
          (ap (λ (k : ℕ). Out i n k) many)
          (subst (λ (e : End). AreLetBy c.lane.inside.post.home.start v c.sweep-first.new.post.view c.args.wire e n) c.in-Exit.is
          (subst (λ (s : Start). AreLetBy s v c.sweep-first.new.post.view c.args.wire c.end-end.result n) (sym begun)
          c.sweep-first.ensures.went.1)),
    )
