use Rattle.cn_wiring.proofs.Common.{path-levels}
use Rattle.cn_wiring.proofs.laws.wires_have_levels.Goals as goal

pub returns : goal.returns
returns c = λ network is. path-levels network.table is.formed network.depth is.deep
