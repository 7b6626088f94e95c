use Rattle.std.proofs.Common.{rules}
use Rattle.cn_balancer.proofs.balancer.Balancer.arrive.Goals as goal

pub returns-clause-arrived : goal.returns-clause-arrived
returns-clause-arrived c = search rules
