use Rattle.cn_walk.proofs.Common.{◌-◌}
use Rattle.cn_walk.proofs.forking.+make_lanes.Given as goal

abbrev pub decreases-make_lanes : goal.decreases-make_lanes
decreases-make_lanes l = l.to - l.from
