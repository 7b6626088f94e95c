use Rattle.cn_core.proofs.Common.{◌≡◌, rules, slice_index, Balancer}
use Rattle.cn_core.proofs.TightLemmas.{bounded-state}
use Rattle.cn_core.proofs.core_state.Core.balancer_count.Goals as goal

pub returns-clause-few : goal.returns-clause-few
returns-clause-few c =
    let value : c.count_at.result ≡ slice_index c.args.self.now.passes c.args.balancer = search rules in
    let b = rw c.self.view_is at (bounded-state _ c.self.invariant.core) in
    rw value (b.ends (Balancer c.args.balancer) c.requires)

pub returns-clause-flow : goal.returns-clause-flow
returns-clause-flow c =
    let value : c.count_at.result ≡ slice_index c.args.self.now.passes c.args.balancer = search rules in
    let b = rw c.self.view_is at (bounded-state _ c.self.invariant.core) in
    λ f brings. rw value (b.passes f brings c.args.balancer c.requires)
