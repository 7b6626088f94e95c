use Rattle.cn_floor.proofs.Common.{[], ledger_of}
use Rattle.cn_floor.proofs.InStates.Histories.{sound-led}
use Rattle.cn_floor.proofs.floor.Floor.each_ledger_is_reached.Goals as goal

pub returns-clause-sound : goal.returns-clause-sound
returns-clause-sound c ledger reached =
    let start = c.args.self.now.start in
    let is = c.start_laws.ensures in
    sound-led start.network.table is.network.formed reached.0 (ledger_of start.network.table start.words start.words []) ledger reached.1
    is.carried.sound
