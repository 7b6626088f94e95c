use Rattle.std.proofs.Common.{ap, arith, lit≤, refl}
use Rattle.cn_tests_low.proofs.drafts.blocked_eight.Goals as goal

pub block-requires-clause-row : goal.block-requires-clause-row
block-requires-clause-row c = (3, lit≤ tt, refl, let none = ap (λ p. p.balancers) c.in_ok-draft.ensures.plan in omega arith)
