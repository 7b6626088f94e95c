use Rattle.cn_wiring.proofs.Common.{◌≡◌, ◌++◌, ◌∷◌, [], arith, rules, append_assoc}
use Rattle.cn_wiring.proofs.Builds.{layer-none, layer-next, layer-more, layer-all}
use Rattle.cn_wiring.proofs.draft.Draft.join_all.Goals as goal

pub loop-i-init : goal.loop-i-init
loop-i-init c = rw c.in_ok-outs.ensures.items (layer-none _ _ _)

pub join-requires-clause-both : goal.join-requires-clause-both
join-requires-clause-both c = layer-next (omega arith) (let e = c.requires.same in omega arith) c.requires.loose c.loop-i.invariant

pub loop-i-preserved : goal.loop-i-preserved
loop-i-preserved c =
    let items : c.push-in-loop-i.new.self.items ≡ c.loop-i.outs.items ++ c.in_ok-first.first ∷ c.in_ok-first.second ∷ [] =
    search (rules, append_assoc) in
    rw items (layer-more (omega arith) (let e = c.requires.same in omega arith) c.requires.loose c.loop-i.invariant
    c.in_ok-first.ensures.built c.in_ok-first.ensures.wires c.in_ok-first.ensures.plan c.in_ok-first.ensures.halves)

pub returns-clause-built : goal.returns-clause-built
returns-clause-built c = (layer-all (omega arith) c.requires.same c.loop-i.invariant).0

pub returns-clause-wires : goal.returns-clause-wires
returns-clause-wires c = (layer-all (omega arith) c.requires.same c.loop-i.invariant).1

pub returns-clause-flow : goal.returns-clause-flow
returns-clause-flow c = (layer-all (omega arith) c.requires.same c.loop-i.invariant).2

pub returns-clause-plan : goal.returns-clause-plan
returns-clause-plan c = (layer-all (omega arith) c.requires.same c.loop-i.invariant).3
