use Rattle.cn_periodic.proofs.Common.{arith}
use Rattle.cn_periodic.proofs.Series.{next-asked, series-all, series-more, series-none, series-ordered}
use Rattle.cn_periodic.proofs.periodic_network.blocks_in_series.Goals as goal

pub loop-done-init : goal.loop-done-init
loop-done-init c = series-none c.in_ok-outputs.outputs.items c.args.level (c.in_ok-outputs.ensures.items_if_clones_equal (λ a b e. e))
    c.requires.row

pub block-requires-clause-row : goal.block-requires-clause-row
block-requires-clause-row c = rw c.deref.ensures.value
    (next-asked c.loop-done-test.true c.requires.room c.requires.loose c.loop-done.invariant).0

pub block-requires-clause-loose : goal.block-requires-clause-loose
block-requires-clause-loose c = rw c.deref.ensures.value
    (next-asked c.loop-done-test.true c.requires.room c.requires.loose c.loop-done.invariant).1

pub loop-done-preserved : goal.loop-done-preserved
loop-done-preserved c =
    let made = rw c.deref.ensures.value at c.in_ok-outputs-2.ensures in
    series-more c.in_ok-outputs-2.outputs.items c.loop-done-test.true c.loop-done.invariant made.built made.order

pub returns-clause-built : goal.returns-clause-built
returns-clause-built c = series-all (omega arith) c.loop-done.invariant

pub returns-clause-order : goal.returns-clause-order
returns-clause-order c = series-ordered (omega arith) c.loop-done.invariant
