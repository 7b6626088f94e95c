use Rattle.cn_walk.proofs.Common.{ap, words_before}
use Rattle.cn_walk.proofs.callers.run_epoch_after.Goals as goal

pub returns-clause-run : goal.returns-clause-run
returns-clause-run g c =
    rw (ap words_before c.in-Ok.ensures.floor) at c.walk_to_quiet.ensures.run
