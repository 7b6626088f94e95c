use Rattle.std.proofs.Common.{rules}
use Rattle.cn_nets.proofs.net.Net.build.Goals as goal

pub returns-in-Tree-clause-ok : goal.returns-in-Tree-clause-ok
returns-in-Tree-clause-ok c = search rules
