use Rattle.cn_floor.proofs.InStates.Histories.{led-on, more-enter, more-list, more-move, more-sweep}
use Rattle.cn_floor.proofs.floor.Floor.histories_go_on.Goals as goal

pub returns-clause-enters : goal.returns-clause-enters
returns-clause-enters c v w client entry step = more-enter c.args.self.now.start.network.table _ _ client entry step.happened

pub returns-clause-moves : goal.returns-clause-moves
returns-clause-moves c v w client answer step = more-move c.args.self.now.start.network.table _ _ _ client answer step.happened

pub returns-clause-lists : goal.returns-clause-lists
returns-clause-lists c v w clients entry step = more-list c.args.self.now.start.network.table clients entry _ _ _ _ step.happened

pub returns-clause-sweeps : goal.returns-clause-sweeps
returns-clause-sweeps c v w wire end first tokens step =
    more-sweep c.args.self.now.start.network.table wire end first tokens _ _ step.happened

pub returns-clause-joined : goal.returns-clause-joined
returns-clause-joined c before after first second third = led-on c.args.self.now.start.network.table before after first second third
