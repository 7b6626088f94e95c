use Rattle.cn_floor.proofs.Common.{sym, ap, ◌∙◌, subst, IsClosed, client_count}
use Rattle.cn_floor.proofs.AtClose.Rises.{none-went}
use Rattle.cn_floor.proofs.floor.words.Words.risen_to.Goals as goal

pub returns-then-self-eq0-clause-none : goal.returns-then-self-eq0-clause-none
returns-then-self-eq0-clause-none c x =
    none-went c.args.self (subst IsClosed c.self.view_is c.self.invariant.closed)
    (ap client_count (sym c.self.view_is) ∙ sym c.self.invariant.clients ∙ c.if-self-eq0.true)
