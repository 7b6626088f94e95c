use Rattle.cn_lists.proofs.Common.{arith}
use Rattle.cn_lists.proofs.Taken.{written-more}
use Rattle.cn_lists.proofs.taking.AnyonePartyNames.leave.Goals as goal

pub returns-clause-noted : goal.returns-clause-noted
returns-clause-noted c tokens before now _ many _ noted =
    written-more _ c.args.width c.args.base c.args.exit c.args.first tokens noted (omega (arith, many)) c.loop-place.invariant.kept
    (λ k low. c.loop-place.invariant.each k (omega (arith, low, many, c.loop-place-test.false)))
