use Rattle.cn_floor.proofs.Common.{rules}
use Rattle.cn_floor.proofs.floor.Floor.entered.Goals as goal

pub returns-clause-answer : goal.returns-clause-answer
returns-clause-answer c = search rules

pub returns-clause-lane : goal.returns-clause-lane
returns-clause-lane c = search rules
