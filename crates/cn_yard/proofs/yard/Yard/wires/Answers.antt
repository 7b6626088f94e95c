use Rattle.cn_yard.proofs.Common.{sym}
use Rattle.cn_yard.proofs.Wires.{wires-are}
use Rattle.cn_yard.proofs.yard.Yard.wires.Goals as goal

pub returns : goal.returns
returns c = rw (← c.self.view_is) (sym (wires-are c.self.inside))
