use Rattle.cn_floor.proofs.InStates.Accounts.{takes-steps}
use Rattle.cn_floor.proofs.floor.Floor.tokens_take_their_steps.Goals as goal

pub returns-clause-walked : goal.returns-clause-walked
returns-clause-walked c s kept id v at = (kept.accounted id v at).walked

pub returns-clause-steps : goal.returns-clause-steps
returns-clause-steps c s kept id v at = takes-steps c.args.self.now.start v c.start_laws.ensures.network (kept.accounted id v at)
