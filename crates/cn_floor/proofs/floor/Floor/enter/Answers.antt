use Rattle.cn_floor.proofs.Common.{length, refl, arith, ap, sym, subst, FloorValue, IsAtomicStep, LaneValue, Network, Start, Enters}
use Rattle.cn_floor.proofs.InLane.Lanes.{home-start, lane-in, lane-with-way}
use Rattle.cn_floor.proofs.floor.Floor.enter.Goals as goal

pub admit-requires-clause-wire : goal.admit-requires-clause-wire
admit-requires-clause-wire c =
    omega (
      arith,
      c.if-entry-from.false,
      c.from.ensures,
      c.entries.ensures.value,
      ap (λ (x : Network). x.table.entries) c.network.ensures.value,
      c.network.ensures.network.formed.wires,
      ap (λ (l : LaneValue). length l.yard.lists) c.lane.view_is,
      c.lane_laws.ensures.wires,
      ap (λ (h : FloorValue). length h.start.network.table.ends) c.requires.own,
    )

pub invariant_of-lane : goal.invariant_of-lane
invariant_of-lane c =
    lane-with-way c.lane.inside c.make_way.new.grants c.lane.invariant c.make_way.ensures.items c.make_way.ensures.room

pub invariant_of-lane-in_default-admit : goal.invariant_of-lane-in_default-admit
invariant_of-lane-in_default-admit c =
    rw c.in_default-admit.ensures.err
    (lane-with-way c.lane.inside _ c.lane.invariant c.make_way.ensures.items c.make_way.ensures.room)

pub invariant_of-lane-2 : goal.invariant_of-lane-2
invariant_of-lane-2 c =
    let kept = lane-with-way c.lane.inside _ c.lane.invariant c.make_way.ensures.items c.make_way.ensures.room in
    lane-in _ _ c.in-Ok-admit.token c.args.client kept c.enter.ensures.home c.args.entry c.enter.ensures.came.0
    c.in-Ok-admit.ensures.ok refl (omega (arith, c.if-quota-eq0.false, c.quota.ensures))
    c.saturating_sub-lane-inside.ensures c.in-Ok.ensures.ok

pub returns-clause-ok : goal.returns-clause-ok
returns-clause-ok c =
    let begun = sym (home-start c.lane.view_is c.requires.own c.self.view_is) in
    rw (← c.lane.view_is) record {
      home = c.enter.ensures.home;
      view = c.enter.ensures.came.0;
      yard = c.in-Ok-admit.ensures.ok;
      room = c.saturating_sub-lane-inside.ensures;
      step = subst (λ (z : Start). IsAtomicStep z c.lane.inside.post.view c.enter.new.post.view
          (λ l m. Enters z.network.table l m c.args.client c.args.entry)) begun c.enter.ensures.came.1;
    }
