use Rattle.std.proofs.Common.{rules, nat_le}
use Rattle.std.proofs.lemmas.Fn.{always_returns_same}
use Rattle.cn_exit.proofs.Steps.{never_rises-by_tests}
use Rattle.cn_exit.proofs.shares.never_rises.Goals as goal

pub returns : goal.returns
returns c =
    never_rises-by_tests c.args.counts.now c.is_sorted_by.result
    (c.is_sorted_by.ensures.cases (λ earlier later. nat_le later earlier)
    (always_returns_same _ _ _ (λ pair answer after called. search rules)))
