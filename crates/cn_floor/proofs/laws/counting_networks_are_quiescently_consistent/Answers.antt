use Rattle.cn_floor.proofs.InStates.Histories.{consistent}
use Rattle.cn_floor.proofs.laws.counting_networks_are_quiescently_consistent.Goals as goal

pub returns : goal.returns
returns c network begin is sound = consistent network begin is sound
