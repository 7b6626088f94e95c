use Rattle.std.proofs.Common.{rules}
use Rattle.cn_nets.proofs.net.Net.kind.Goals as goal

pub returns-clause-kind : goal.returns-clause-kind
returns-clause-kind c = search rules

pub returns-clause-built : goal.returns-clause-built
returns-clause-built c = search rules
