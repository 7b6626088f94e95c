use Rattle.cn_core.proofs.Common.{◌≡◌, rules, slice_index, Exit}
use Rattle.cn_core.proofs.TightLemmas.{bounded-state}
use Rattle.cn_core.proofs.core_state.Core.exit_count.Goals as goal

pub returns-clause-few : goal.returns-clause-few
returns-clause-few c =
    let value : c.count.result ≡ slice_index c.args.self.now.visits c.args.exit = search rules in
    let b = rw c.self.view_is at (bounded-state _ c.self.invariant.core) in
    rw value (b.counts c.args.exit c.requires)

pub returns-clause-at_most : goal.returns-clause-at_most
returns-clause-at_most c =
    let value : c.count.result ≡ slice_index c.args.self.now.visits c.args.exit = search rules in
    let b = rw c.self.view_is at (bounded-state _ c.self.invariant.core) in
    rw value (b.ends (Exit c.args.exit) c.requires)
