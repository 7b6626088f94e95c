use Rattle.cn_floor.proofs.InStates.Histories.{consistent}
use Rattle.cn_floor.proofs.floor.Floor.names_are_quiescently_consistent.Goals as goal

pub returns : goal.returns
returns c =
    let is = c.start_laws.ensures in
    consistent c.args.self.now.start.network _ is.network is.carried.sound
