use Rattle.cn_renamer.proofs.Common.{◌+◌, ◌*◌, length}
use Rattle.cn_renamer.proofs.epochs.+fn-run_beside-join_mut+arg2+fn-run_beside-join_mut+arg3+run_beside.Given as goal

abbrev pub decreases-join_mut+arg2 : goal.decreases-join_mut+arg2
decreases-join_mut+arg2 g l = 2 * length l.first.now + 1

abbrev pub decreases-join_mut+arg3 : goal.decreases-join_mut+arg3
decreases-join_mut+arg3 g l = 2 * length l.second.now + 1

abbrev pub decreases-run_beside : goal.decreases-run_beside
decreases-run_beside g l = 2 * length l.epochs.now
