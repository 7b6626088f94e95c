use Rattle.std.proofs.Common.{rules}
use Rattle.cn_balancer.proofs.balancer.Balancer.is_full.Goals as goal

pub returns-clause-full : goal.returns-clause-full
returns-clause-full c = search rules
