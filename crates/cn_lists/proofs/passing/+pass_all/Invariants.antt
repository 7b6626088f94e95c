use Rattle.cn_lists.proofs.Common.{◌-◌, length}
use Rattle.cn_lists.proofs.passing.+pass_all.Given as goal

abbrev pub decreases-pass_all : goal.decreases-pass_all
decreases-pass_all g l = length l.floor.now.start.network.table.ends - l.wire
