use Rattle.std.proofs.Common.{rules}
use Rattle.cn_balancer.proofs.outputs.output_of.Goals as goal

pub returns : goal.returns
returns c = search rules
