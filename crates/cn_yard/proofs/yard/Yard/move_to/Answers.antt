use Rattle.cn_yard.proofs.Common.{arith}
use Rattle.cn_yard.proofs.Bodies.{Relinked, after, keeps-relinked, moves-relinked, relinked-by}
use Rattle.cn_yard.proofs.Wires.{closed, kept-live, wires-are}
use Rattle.cn_yard.proofs.Readers.{live-number}
use Rattle.cn_yard.proofs.yard.Yard.move_to.Goals.{After-relink}
use Rattle.cn_yard.proofs.yard.Yard.move_to.Goals as goal

pub relink-requires-clause-number : goal.relink-requires-clause-number
relink-requires-clause-number c = rw (c.number.ensures, c.deref_mut.ensures.value)
    (live-number c.self.inside c.self.invariant c.args.token (rw (← c.self.view_is) at c.requires.live))

pub relink-requires-clause-wire : goal.relink-requires-clause-wire
relink-requires-clause-wire c =
    let (order, k) = kept-live c.self.inside c.args.token c.self.invariant (rw (← c.self.view_is) at c.requires.live) in
    let as_many = k.wires in
    let h = rw (← c.self.view_is, wires-are c.self.inside) at c.requires.wire in
    rw c.deref_mut-2.ensures.value (omega arith)

pub relink-requires-clause-lined : goal.relink-requires-clause-lined
relink-requires-clause-lined c =
    let (order, k) = kept-live c.self.inside c.args.token c.self.invariant (rw (← c.self.view_is) at c.requires.live) in
    rw (c.deref_mut.ensures.value, c.deref_mut-2.ensures.value, c.deref_mut-3.ensures.value) (order, k.lined)

relinked : (c : After-relink)
    → Relinked c.self.inside (after c.self.inside c.relink.new.records c.relink.new.lines c.relink.new.marks) c.args.token c.args.wire
relinked c =
    relinked-by c.self.inside c.relink.new.marks c.number.ensures c.deref_mut.ensures.value c.deref_mut-2.ensures.value
    c.deref_mut-3.ensures.value c.deref_mut.ensures.len c.deref_mut-2.ensures.len c.deref_mut-3.ensures.len
    c.relink.ensures.kept c.relink.ensures.lined c.relink.ensures.words

pub invariant_of-self : goal.invariant_of-self
invariant_of-self c =
    let (order, k) = kept-live c.self.inside c.args.token c.self.invariant (rw (← c.self.view_is) at c.requires.live) in
    closed (keeps-relinked k (relinked (goal.at.invariant_of-self c).After-relink))

pub returns : goal.returns
returns c from client stands =
    let (order, k) = kept-live c.self.inside c.args.token c.self.invariant (rw (← c.self.view_is) at c.requires.live) in
    let h = rw (← c.self.view_is, wires-are c.self.inside) at c.requires.wire in
    rw (← c.self.view_is)
    (moves-relinked k (relinked (goal.at.returns c).After-relink) h (rw (← c.self.view_is) at stands))
