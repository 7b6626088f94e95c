use Rattle.cn_tables.proofs.Arrivals.{Counted}
use Rattle.cn_tables.proofs.fault.arrivals.Given as goal

abbrev pub invariant-loop-end : goal.invariant-loop-end
invariant-loop-end l = Counted l.fn.balancers l.fn.width l.ends l.at_balancers.items l.at_exits.items l.end-index
