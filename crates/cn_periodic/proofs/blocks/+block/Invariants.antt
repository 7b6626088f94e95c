use Rattle.cn_periodic.proofs.Common.{length}
use Rattle.cn_periodic.proofs.blocks.+block.Given as goal

abbrev pub decreases-block : goal.decreases-block
decreases-block l = length l.wires.now
