use Rattle.std.proofs.Common.{ap, arith, refl}
use Rattle.cn_tests_low.proofs.drafts.merged_eight.Goals as goal

pub merger-requires-clause-rows : goal.merger-requires-clause-rows
merger-requires-clause-rows c = (2, refl, refl, let none = ap (λ p. p.balancers) c.in_ok-draft.ensures.plan in omega arith)
