use Rattle.cn_floor.proofs.InStates.Overtaken.{overtaken}
use Rattle.cn_floor.proofs.laws.counting_networks_are_not_linearizable.Goals as goal

pub returns : goal.returns
returns c network begin is wide sound quiet = overtaken network.table is.formed is.counts begin wide sound quiet
