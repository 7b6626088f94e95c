use Rattle.std.proofs.Common.{rules}
use Rattle.cn_balancer.proofs.outputs.departures.Goals as goal

pub returns-clause-half : goal.returns-clause-half
returns-clause-half c = search rules
