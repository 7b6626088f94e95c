use Rattle.cn_bitonic.proofs.Common.{length}
use Rattle.cn_bitonic.proofs.bitonic_network.+bitonic_over.Given as goal

abbrev pub decreases-bitonic_over : goal.decreases-bitonic_over
decreases-bitonic_over l = length l.wires.now
