use Rattle.std.proofs.Common.{rules}
use Rattle.cn_balancer.proofs.balancer.Balancer.waiting.Goals as goal

pub returns : goal.returns
returns c = search rules
