use Rattle.std.proofs.Common.{rules}
use Rattle.cn_nets.proofs.net.Net.width.Goals as goal

pub returns-clause-width : goal.returns-clause-width
returns-clause-width c = search rules

pub returns-clause-built : goal.returns-clause-built
returns-clause-built c = search rules
