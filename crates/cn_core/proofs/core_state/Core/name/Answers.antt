use Rattle.cn_core.proofs.Common.{◌≡◌, rules, Some, name_in}
use Rattle.cn_core.proofs.TightLemmas.{bounded-state}
use Rattle.cn_core.proofs.core_state.Core.name.Goals as goal

pub returns-in-Named-clause-below : goal.returns-in-Named-clause-below
returns-in-Named-clause-below c =
    let value : name_in c.args.self.now c.args.client ≡ Some c.in-Named.name = search rules in
    let b = rw c.self.view_is at (bounded-state _ c.self.invariant.core) in
    b.below c.args.client c.in-Named.name value

pub returns-in-Named-clause-own : goal.returns-in-Named-clause-own
returns-in-Named-clause-own c =
    let value : name_in c.args.self.now c.args.client ≡ Some c.in-Named.name = search rules in
    let b = rw c.self.view_is at (bounded-state _ c.self.invariant.core) in
    λ other holds. b.distinct other c.args.client c.in-Named.name holds value
