use Rattle.cn_epoch.proofs.Common.{arith, common_steps}
use Rattle.cn_epoch.proofs.epochs.exit_counts.Goals as goal

pub loop-exit-preserved : goal.loop-exit-preserved
loop-exit-preserved c = grind (arith, common_steps)
