use Rattle.std.proofs.Common.{rules}
use Rattle.cn_nets.proofs.net.NetFault.status.Goals as goal

pub returns : goal.returns
returns c = search rules
