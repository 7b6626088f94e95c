use Rattle.cn_report.proofs.Accepted.{accepted, counted_after, printed}
use Rattle.cn_report.proofs.laws.written_grants_are_accepted.Goals as goal

pub returns-clause-tight : goal.returns-clause-tight
returns-clause-tight c = accepted

pub returns-clause-printed : goal.returns-clause-printed
returns-clause-printed c = λ net carry large bytes text run. (run.epochs, run.batch, printed net carry large bytes text run)

pub returns-clause-after : goal.returns-clause-after
returns-clause-after c = counted_after
