use Rattle.cn_clients.proofs.Common.{rules, ℕ, [], List, sym, subst, take_all, take_more, Filled, FilledBy}
use Rattle.cn_clients.proofs.FilledSlots.{filled-none, filled-one}
use Rattle.cn_clients.proofs.slots.fill_all.Goals as goal

pub loop-client-init : goal.loop-client-init
loop-client-init c = subst (λ (fs : List Filled). FilledBy c.args.slots.now c.args.lane c.args.lane [] fs) (sym c.new-filled.ensures.items)
    (filled-none c.args.slots.now c.args.lane)

pub loop-client-preserved : goal.loop-client-preserved
loop-client-preserved c =
    subst (λ (x : List ℕ × List Filled). FilledBy c.args.slots.now c.args.lane c.name.new.lane x.0 x.1)
    (λ i. (sym (take_more c.args.clients.now c.loop-client.client-index 0 c.loop-client-test.true) i, sym c.in-Ok-push.ensures.items i))
    (filled-one _ _ _ _ _ _ _ _ c.loop-client.invariant c.in-Ok.ensures.ok (search rules, c.index-slots-name.is))

pub returns : goal.returns
returns c = subst (λ (cs : List ℕ). FilledBy c.args.slots.now c.args.lane c.loop-client.lane cs c.loop-client.filled.items)
    (take_all c.loop-client.client-index c.args.clients.now c.loop-client-test.false) c.loop-client.invariant
