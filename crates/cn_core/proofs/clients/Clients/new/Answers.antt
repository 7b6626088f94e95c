use Rattle.cn_core.proofs.Clientele.{nobody}
use Rattle.cn_core.proofs.clients.Clients.new.Goals as goal

pub invariant_of-result : goal.invariant_of-result
invariant_of-result c = rw c.in_ok-new-2.ensures (nobody _ c.in_ok-new.ensures.nobody)
