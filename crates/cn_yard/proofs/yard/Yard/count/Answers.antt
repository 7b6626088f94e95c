use Rattle.cn_yard.proofs.Common.{◌∙◌, ◌<◌, ap, sym, List, Line, count_of}
use Rattle.cn_yard.proofs.Wires.{wires-are}
use Rattle.cn_yard.proofs.Readers.{count-all}
use Rattle.cn_yard.proofs.yard.Yard.count.Goals as goal

pub returns : goal.returns
returns c =
    let y = c.self.inside in
    let h : c.args.wire < y.wires = rw (← c.self.view_is, wires-are y) at c.requires in
    rw (← c.self.view_is)
    (c.count_on.ensures ∙ ap (λ (ls : List Line). count_of ls c.args.wire) c.deref.ensures.value
    ∙ sym (count-all y c.self.invariant c.args.wire h))
