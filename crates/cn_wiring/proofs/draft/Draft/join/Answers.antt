use Rattle.cn_wiring.proofs.Common.{◌≡◌, ◌<◌, [], ◌∷◌, ◌++◌, length, set, Some, None, arith, rules, sym, ap, MOST_BALANCERS, AllLoose, plan_of}
use Rattle.cn_wiring.proofs.Grown.{builds-grown, orderly-grown, two-stand, halves-joined, flow-unjoined}
use Rattle.cn_wiring.proofs.draft.Draft.join.Goals as goal

pub index_mut-requires : goal.index_mut-requires
index_mut-requires c =
    let both : AllLoose (plan_of c.self.inside) (c.args.u ∷ c.args.v ∷ []) = rw (← c.self.view_is) at c.requires.both in
    let len : length c.self.inside.ends.items ≡ length c.reserve.new.self.items = ap length (sym c.reserve.ensures.items) in
    omega (arith, two-stand (plan_of c.self.inside) c.args.u c.args.v both, c.reserve.new.self.ok.0)

pub index_mut-requires-2 : goal.index_mut-requires-2
index_mut-requires-2 c =
    let both : AllLoose (plan_of c.self.inside) (c.args.u ∷ c.args.v ∷ []) = rw (← c.self.view_is) at c.requires.both in
    let len : length c.self.inside.ends.items ≡ length c.reserve.new.self.items = ap length (sym c.reserve.ensures.items) in
    omega (arith, two-stand (plan_of c.self.inside) c.args.u c.args.v both, c.reserve.new.self.ok.0)

pub invariant_of-self-2 : goal.invariant_of-self-2
invariant_of-self-2 c =
    let items : c.push-2.new.self.items ≡ (set (set c.self.inside.ends.items c.args.u (Some c.self.inside.balancers)) c.args.v
    (Some c.self.inside.balancers) ++ None ∷ []) ++ None ∷ [] = search rules in
    let both : AllLoose (plan_of c.self.inside) (c.args.u ∷ c.args.v ∷ []) = rw (← c.self.view_is) at c.requires.both in
    let room : c.self.inside.balancers < MOST_BALANCERS = rw (← c.self.view_is) at c.requires.room in
    rw items (orderly-grown (plan_of c.self.inside) (c.args.u ∷ c.args.v ∷ []) c.self.invariant both room (omega arith, omega arith))

pub returns-clause-built : goal.returns-clause-built
returns-clause-built c =
    let items : c.push-2.new.self.items ≡ (set (set c.self.inside.ends.items c.args.u (Some c.self.inside.balancers)) c.args.v
    (Some c.self.inside.balancers) ++ None ∷ []) ++ None ∷ [] = search rules in
    let both : AllLoose (plan_of c.self.inside) (c.args.u ∷ c.args.v ∷ []) = rw (← c.self.view_is) at c.requires.both in
    rw (items, ← c.self.view_is) (builds-grown (plan_of c.self.inside) (c.args.u ∷ c.args.v ∷ []) c.self.invariant both)

pub returns-clause-halves : goal.returns-clause-halves
returns-clause-halves c =
    let items : c.push-2.new.self.items ≡ (set (set c.self.inside.ends.items c.args.u (Some c.self.inside.balancers)) c.args.v
    (Some c.self.inside.balancers) ++ None ∷ []) ++ None ∷ [] = search rules in
    let both : AllLoose (plan_of c.self.inside) (c.args.u ∷ c.args.v ∷ []) = rw (← c.self.view_is) at c.requires.both in
    rw items (halves-joined (plan_of c.self.inside) c.args.u c.args.v c.self.invariant both)

pub returns-clause-flows : goal.returns-clause-flows
returns-clause-flows c =
    let items : c.push-2.new.self.items ≡ (set (set c.self.inside.ends.items c.args.u (Some c.self.inside.balancers)) c.args.v
    (Some c.self.inside.balancers) ++ None ∷ []) ++ None ∷ [] = search rules in
    let both : AllLoose (plan_of c.self.inside) (c.args.u ∷ c.args.v ∷ []) = rw (← c.self.view_is) at c.requires.both in
    rw (items, ← c.self.view_is) (flow-unjoined (plan_of c.self.inside) c.args.u c.args.v c.self.invariant both)
