use Rattle.cn_wiring.proofs.Common.{◌≡◌, length, arith, sym, ap, ◌∙◌, length-map, take_all, balancer_of}
use Rattle.cn_wiring.proofs.Close.{Closed-none, Closed-more, exit-below}
use Rattle.cn_wiring.proofs.draft.close.Goals as goal

pub loop-i-preserved : goal.loop-i-preserved
loop-i-preserved c = Closed-more c.args.ends.now c.args.exits.now c.loop-i.closed.items c.loop-i.i c.requires.loose c.loop-i-test.true
    c.loop-i.invariant

pub loop-i-init : goal.loop-i-init
loop-i-init c = Closed-none c.args.ends.now c.args.exits.now c.loop-end.closed.items
    (c.loop-end.invariant ∙ take_all c.loop-end.end-index c.args.ends.now c.loop-end-test.false)

pub index_mut-requires : goal.index_mut-requires
index_mut-requires c =
    let below = exit-below c.args.ends.now c.args.exits.now c.loop-i.i c.requires.loose (omega arith) in
    let n : length c.loop-i.closed.items ≡ length c.args.ends.now =
    sym (length-map c.loop-i.closed.items balancer_of) ∙ ap length c.loop-i.invariant.plan in
    omega (arith, c.loop-i.closed.ok.0)
