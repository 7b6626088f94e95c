use Rattle.std.proofs.Common.{rules}
use Rattle.cn_exit.proofs.Steps.{NeverRises, last_at-most-first, step_by-ends, step-ends}
use Rattle.cn_exit.proofs.shares.is_step.Goals as goal

pub overflow_sub-result : goal.overflow_sub-result
overflow_sub-result c =
    let counts = c.args.counts.now in
    let never : NeverRises counts = c.never_rises.ensures.0 (search rules) in
    search (rules, last_at-most-first counts (search rules) never)

pub returns-then-never_rises : goal.returns-then-never_rises
returns-then-never_rises c =
    let counts = c.args.counts.now in
    let never : NeverRises counts = c.never_rises.ensures.0 (search rules) in
    (λ small. step_by-ends counts never (search rules), λ step. search (rules, step-ends counts step))
