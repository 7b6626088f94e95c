use Rattle.cn_wiring.proofs.Common.{subst, sym, IsStep}
use Rattle.cn_wiring.proofs.Finished.{draft-flow, exits-flow}
use Rattle.cn_wiring.proofs.draft.Draft.finish_counting.Goals as goal

pub of-requires-clause-counts : goal.of-requires-clause-counts
of-requires-clause-counts c f full =
    let made = c.in_ok-wiring.ensures in
    subst IsStep (sym (exits-flow c.in_ok-wiring.wiring c.args.exits.now made.table.width made.flow f))
    (c.requires.counts f (draft-flow c.in_ok-wiring.wiring c.args.self made.table.plan f full))

pub returns-clause-draft : goal.returns-clause-draft
returns-clause-draft c = rw c.of.ensures (draft-flow c.in_ok-wiring.wiring c.args.self c.in_ok-wiring.ensures.table.plan)

pub returns-clause-exits : goal.returns-clause-exits
returns-clause-exits c = rw c.of.ensures
    (exits-flow c.in_ok-wiring.wiring c.args.exits.now c.in_ok-wiring.ensures.table.width c.in_ok-wiring.ensures.flow)
