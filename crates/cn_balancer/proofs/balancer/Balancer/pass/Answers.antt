use Rattle.std.proofs.Common.{rules}
use Rattle.cn_balancer.proofs.balancer.Balancer.pass.Goals as goal

pub returns-clause-output : goal.returns-clause-output
returns-clause-output c = search rules

pub returns-clause-departed : goal.returns-clause-departed
returns-clause-departed c = search rules

pub returns-clause-passed : goal.returns-clause-passed
returns-clause-passed c = search rules
