use Rattle.cn_nets.proofs.OneNetwork.{one-network}
use Rattle.cn_nets.proofs.laws.networks_are_unique.Goals as goal

pub returns : goal.returns
returns c = one-network
