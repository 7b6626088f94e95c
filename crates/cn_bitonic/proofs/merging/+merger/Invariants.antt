use Rattle.cn_bitonic.proofs.Common.{length}
use Rattle.cn_bitonic.proofs.merging.+merger.Given as goal

abbrev pub decreases-merger : goal.decreases-merger
decreases-merger l = length l.x.now
