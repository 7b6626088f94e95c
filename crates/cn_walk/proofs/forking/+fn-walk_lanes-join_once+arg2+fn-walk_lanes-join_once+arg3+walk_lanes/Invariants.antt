use Rattle.cn_walk.proofs.Common.{◌+◌, ◌*◌}
use Rattle.cn_walk.proofs.Parts.{nodes}
use Rattle.cn_walk.proofs.forking.+fn-walk_lanes-join_once+arg2+fn-walk_lanes-join_once+arg3+walk_lanes.Given as goal

abbrev pub decreases-join_once+arg2 : goal.decreases-join_once+arg2
decreases-join_once+arg2 g l = 2 * nodes l.left + 1

abbrev pub decreases-join_once+arg3 : goal.decreases-join_once+arg3
decreases-join_once+arg3 g l = 2 * nodes l.right + 1

abbrev pub decreases-walk_lanes : goal.decreases-walk_lanes
decreases-walk_lanes g l = 2 * nodes l.lanes
