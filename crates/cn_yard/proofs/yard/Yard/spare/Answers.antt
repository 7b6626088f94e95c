use Rattle.cn_yard.proofs.Common.{◌∙◌, ap, List, Line, count_of}
use Rattle.cn_yard.proofs.yard.Yard.spare.Goals as goal

pub returns : goal.returns
returns c = rw (← c.self.view_is) (c.count_on.ensures ∙ ap (λ (ls : List Line). count_of ls c.self.inside.wires) c.deref.ensures.value)
