use Rattle.cn_core.proofs.Common.{◌≡◌, ◌++◌, ◌∷◌, [], rules, Walking}
use Rattle.cn_core.proofs.Clientele.{absent-found, come, undo}
use Rattle.cn_core.proofs.clients.Clients.add.Goals as goal

pub invariant_of-self-then-is_err : goal.invariant_of-self-then-is_err
invariant_of-self-then-is_err c =
    let y = c.self.inside in
    let same : c.admit-2.new.self ≡ y.names = search rules in
    rw same (undo c.in_ok-token.ensures.ok c.release.ensures.released c.self.invariant).1

pub invariant_of-self-else-is_err : goal.invariant_of-self-else-is_err
invariant_of-self-else-is_err c =
    let y = c.self.inside in
    let added : c.admit-2.new.self ≡ y.names ++ (c.args.client, Walking c.in_ok-token.token) ∷ [] = search rules in
    rw added (come c.in_ok-token.ensures.ok c.self.invariant
    (absent-found y.yard.lists y.names c.args.client (rw (← c.self.view_is) at c.requires.new))).1

pub returns-clause-ok : goal.returns-clause-ok
returns-clause-ok c =
    let y = c.self.inside in
    let added : c.admit-2.new.self ≡ y.names ++ (c.args.client, Walking c.in_ok-token.token) ∷ [] = search rules in
    rw (← c.self.view_is, added) (come c.in_ok-token.ensures.ok c.self.invariant
    (absent-found y.yard.lists y.names c.args.client (rw (← c.self.view_is) at c.requires.new))).0
