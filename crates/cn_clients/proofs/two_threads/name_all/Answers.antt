use Rattle.cn_clients.proofs.Common.{ℕ, [], List, ap, ◌∙◌, sym, subst, take_all, take_more, Lists, tokens_in, GaveNames}
use Rattle.cn_clients.proofs.Naming.{gave-none, gave-one}
use Rattle.cn_clients.proofs.two_threads.name_all.Goals as goal

pub loop-client-init : goal.loop-client-init
loop-client-init c = subst (λ (ns : List ℕ). GaveNames c.args.lane c.args.lane [] ns) (sym c.new-names.ensures.items)
    (gave-none c.args.lane)

pub name-requires-clause-out : goal.name-requires-clause-out
name-requires-clause-out c = ap (λ (ls : Lists). tokens_in ls) c.loop-client.invariant.lists ∙ c.requires.out

pub loop-client-preserved : goal.loop-client-preserved
loop-client-preserved c =
    subst (λ (x : List ℕ × List ℕ). GaveNames c.args.lane c.name.new.lane x.0 x.1)
    (λ i. (sym (take_more c.args.clients.now c.loop-client.client-index 0 c.loop-client-test.true) i, sym c.in-Ok-push.ensures.items i))
    (gave-one _ _ _ _ _ _ _ _ c.loop-client.invariant c.in-Ok.ensures.ok)

pub returns : goal.returns
returns c = subst (λ (cs : List ℕ). GaveNames c.args.lane c.loop-client.lane cs c.loop-client.names.items)
    (take_all c.loop-client.client-index c.args.clients.now c.loop-client-test.false) c.loop-client.invariant
