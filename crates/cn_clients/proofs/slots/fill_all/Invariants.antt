use Rattle.cn_clients.proofs.Common.{take, FilledBy}
use Rattle.cn_clients.proofs.slots.fill_all.Given as goal

abbrev pub invariant-loop-client : goal.invariant-loop-client
invariant-loop-client l = FilledBy l.slots l.initial.lane l.lane (take l.client-index l.clients) l.filled.items
