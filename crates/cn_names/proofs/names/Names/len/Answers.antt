use Rattle.cn_names.proofs.Walking.{once}
use Rattle.cn_names.proofs.names.Names.len.Goals as goal

pub returns-clause-once : goal.returns-clause-once
returns-clause-once c = λ client. rw (← c.self.view_is) (once client _ c.self.invariant)
