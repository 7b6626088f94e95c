use Rattle.cn_floor.proofs.Common.{◌≡◌, ℕ, ◌+◌, ◌*◌, ◌-◌, ◌%◌, ◌<◌, List, Some, refl, arith, sym, ap, ◌∙◌, subst, Balancer, End, Exit, FloorValue, IsLetBy, IsThere, Network, Stands, Start, View, after_step, base, end_of, lane_of, name_of, output_wire, On, Out, there-alike, FitsLanes, Moves, standing}
use Rattle.cn_floor.proofs.InLane.Lanes.{home-network, home-start, lane-on, lane-out, steps-on, view-network, view-start}
use Rattle.cn_floor.proofs.InLane.Named.{name-small}
use Rattle.cn_floor.proofs.floor.Floor.step.Goals as goal

pub step-number-requires-clause-there : goal.step-number-requires-clause-there
step-number-requires-clause-there c =
    let wire : ℕ = c.wire_of-wire.result in
    let same = there-alike c.lane.inside.yard.lists c.args.token _ c.client_of-client.result wire _ c.wire_of-wire.ensures.1
    c.client_of-client.ensures.1 in
    subst (λ (ls : List (List (ℕ × ℕ))). IsThere ls c.args.token c.client_of-client.result wire) c.lane.invariant.tokens
    (subst (λ (k : ℕ). IsThere c.lane.inside.yard.lists c.args.token k wire) same.0 c.wire_of-wire.ensures.1)

pub invariant_of-lane : goal.invariant_of-lane
invariant_of-lane c =
    let v = c.lane.inside.post.view in
    let b : ℕ = c.in-Balancer.balancer in
    let n : ℕ = c.step-number.result in
    let began = c.lane_laws.ensures.start in
    let network = view-network c.lane.view_is c.requires.own began c.network-network.ensures.value in
    let entries = c.entries.ensures.value ∙ sym (ap (λ (x : Network). x.table.entries) network) in
    lane-on c.lane.inside _ c.args.token c.client_of-client.result c.lane.invariant c.step-number.ensures.home b n
    (c.entries.result + 2 * b + c.output_of.result)
    (omega (arith, c.output_of.ensures))
    (c.step-number.ensures.went.0 ∙ ap (λ (e : End). after_step c.args.token c.client_of-client.result e n v) c.in-Balancer.is)
    (c.move_to.ensures _ c.client_of-client.result c.client_of-client.ensures.1.found)
    refl refl

pub invariant_of-lane-in-Exit : goal.invariant_of-lane-in-Exit
invariant_of-lane-in-Exit c =
    let v = c.lane.inside.post.view in
    let i : ℕ = c.in-Exit.exit in
    let n : ℕ = c.step-number.result in
    let begun = view-start c.lane.view_is c.requires.own c.lane_laws.ensures.start c.self.view_is in
    let began = c.lane_laws.ensures.start in
    let network = view-network c.lane.view_is c.requires.own began c.network-network.ensures.value in
    let width : c.width.result ≡ v.start.network.table.width = c.width.ensures.value ∙ sym (ap (λ (x : Network). x.table.width) network) in
    let base_is : c.self.inside.base ≡ base v.start = c.self.invariant.base ∙ sym (ap (λ (s : Start). base s) begun) in
    let name : c.name_of.result - c.self.inside.base ≡ name_of v.start.network.table.width i n - base v.start =
    (λ x. c.name_of.ensures x - base_is x) ∙ ap (λ (w : ℕ). name_of w i n - base v.start) width in
    lane-out c.lane.inside _ c.args.token c.client_of-client.result c.lane.invariant c.step-number.ensures.home i n
    (c.name_of.result - c.self.inside.base) name
    (c.step-number.ensures.went.0 ∙ ap (λ (e : End). after_step c.args.token c.client_of-client.result e n v) c.in-Exit.is)
    c.release.ensures.released c.push_reserved.ensures.items c.push_reserved.ensures.capacity refl

pub returns-in-Exit : goal.returns-in-Exit
returns-in-Exit c =
    let v : View = c.lane.inside.post.view in
    let w : View = c.step-number.new.post.view in
    let token = c.args.token in
    let client : ℕ = c.client_of-client.result in
    let wire : ℕ = c.wire_of-wire.result in
    let i : ℕ = c.in-Exit.exit in
    let n : ℕ = c.step-number.result in
    let begun = home-start c.lane.view_is c.requires.own c.self.view_is in
    let network = home-network c.lane.view_is c.requires.own c.network-network.ensures.value in
    let at = ap (λ (x : Network). end_of x.table wire) network ∙ c.end-end.ensures.at in
    let out : end_of c.lane.inside.post.home.start.network.table wire ≡ Exit i = at ∙ c.in-Exit.is in
    let width = c.width.ensures.value ∙ sym (ap (λ (x : Network). x.table.width) network) in
    let base_is = c.self.invariant.base ∙ sym (ap (λ (s : Start). base s) begun) in
    let name : c.name_of.result - c.self.inside.base
    ≡ name_of c.lane.inside.post.home.start.network.table.width i n - base c.lane.inside.post.home.start =
    (λ x. c.name_of.ensures x - base_is x) ∙ ap (λ (k : ℕ). name_of k i n - base c.lane.inside.post.home.start) width in
    let went = c.step-number.ensures.went.0 ∙ ap (λ (e : End). after_step token client e n v) c.in-Exit.is in
    let same = there-alike c.lane.inside.yard.lists token client _ _ wire c.client_of-client.ensures.1 c.wire_of-wire.ensures.1 in
    let stands = subst (λ (u : ℕ). standing c.lane.inside.yard.lists token ≡ Some (u, client)) same.1 c.client_of-client.ensures.1.found in
    rw (← c.lane.view_is) (
      client,
      wire,
      n,
      steps-on (lane_of c.lane.inside) _ token client wire n _ (Exit i) out stands
          c.step-number.ensures.home went c.release.ensures.released refl
          (ap (λ (k : ℕ). Out i n k) name)
          (subst (λ (e : End). IsLetBy c.lane.inside.post.home.start v w client e n) c.in-Exit.is
          (subst (λ (s : Start). IsLetBy s v w client c.end-end.result n) (sym begun) c.step-number.ensures.went.1)),
    )

pub returns-in-Balancer : goal.returns-in-Balancer
returns-in-Balancer c =
    let v : View = c.lane.inside.post.view in
    let w : View = c.step-number.new.post.view in
    let token = c.args.token in
    let client : ℕ = c.client_of-client.result in
    let wire : ℕ = c.wire_of-wire.result in
    let b : ℕ = c.in-Balancer.balancer in
    let n : ℕ = c.step-number.result in
    let begun = home-start c.lane.view_is c.requires.own c.self.view_is in
    let network = home-network c.lane.view_is c.requires.own c.network-network.ensures.value in
    let on = ap (λ (x : Network). end_of x.table wire) network ∙ c.end-end.ensures.at ∙ c.in-Balancer.is in
    let entries = c.entries.ensures.value ∙ sym (ap (λ (x : Network). x.table.entries) network) in
    let to : c.entries.result + 2 * b + c.output_of.result ≡ output_wire c.lane.inside.post.home.start.network.table b (n % 2) =
    omega (arith, c.output_of.ensures) in
    let went : w ≡ after_step token client (Balancer b) n v =
    c.step-number.ensures.went.0 ∙ ap (λ (e : End). after_step token client e n v) c.in-Balancer.is in
    let same = there-alike c.lane.inside.yard.lists token client _ _ wire c.client_of-client.ensures.1 c.wire_of-wire.ensures.1 in
    let stands = subst (λ (u : ℕ). standing c.lane.inside.yard.lists token ≡ Some (u, client)) same.1 c.client_of-client.ensures.1.found in
    rw (← c.lane.view_is) (
      client,
      wire,
      n,
      steps-on (lane_of c.lane.inside) _ token client wire n _ (Balancer b) on stands
          c.step-number.ensures.home went
          (subst (λ (u : ℕ). Moves c.lane.inside.yard c.move_to.new.self token client u) to
          (c.move_to.ensures _ client c.client_of-client.ensures.1.found)) refl
          (ap (λ (u : ℕ). On b n u) to)
          (subst (λ (e : End). IsLetBy c.lane.inside.post.home.start v w client e n) c.in-Balancer.is
          (subst (λ (s : Start). IsLetBy s v w client c.end-end.result n) (sym begun) c.step-number.ensures.went.1)),
    )

pub name_of-requires : goal.name_of-requires
name_of-requires c =
    let start : Start = c.self.inside.counters.start in
    let i : ℕ = c.in-Exit.exit in
    let network : c.network-network.result.now ≡ start.network =
    c.network-network.ensures.value ∙ ap (λ (h : FloorValue). h.start.network) (sym c.self.view_is) in
    let width : c.width.result ≡ start.network.table.width = c.width.ensures.value ∙ ap (λ (x : Network). x.table.width) network in
    let small = subst FitsLanes (home-start c.lane.view_is c.requires.own c.self.view_is) c.lane.invariant.small in
    let stands : i < start.network.table.width =
    subst (λ (x : Network × End). Stands x.0.table x.1) (λ k. (network k, c.in-Exit.is k)) c.end-end.ensures.there in
    let few = c.step-number.ensures.went.1.few in
    omega (
      arith,
      name-small start i c.step-number.result c.self.invariant.began small stands (omega (arith, few)),
      ap (λ (k : ℕ). name_of k i c.step-number.result) width,
    )
