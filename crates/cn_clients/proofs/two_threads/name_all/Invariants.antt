use Rattle.cn_clients.proofs.Common.{take, GaveNames}
use Rattle.cn_clients.proofs.two_threads.name_all.Given as goal

abbrev pub invariant-loop-client : goal.invariant-loop-client
invariant-loop-client l = GaveNames l.initial.lane l.lane (take l.client-index l.clients) l.names.items
