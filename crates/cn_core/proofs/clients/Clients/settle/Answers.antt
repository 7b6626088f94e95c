use Rattle.cn_core.proofs.Clientele.{leave, live-found}
use Rattle.cn_core.proofs.clients.Clients.settle.Goals as goal

pub release-requires : goal.release-requires
release-requires c = live-found c.args.client c.self.invariant (rw (← c.self.view_is) at c.requires.walking)

pub settle-requires : goal.settle-requires
settle-requires c = (c.args.token, rw (← c.self.view_is) at c.requires.walking)

pub invariant_of-self : goal.invariant_of-self
invariant_of-self c =
    let walking = rw (← c.self.view_is) at c.requires.walking in
    rw c.settle.ensures (leave c.args.client c.args.name c.release.ensures.released c.self.invariant walking).1

pub returns-clause-settled : goal.returns-clause-settled
returns-clause-settled c =
    let walking = rw (← c.self.view_is) at c.requires.walking in
    rw (← c.self.view_is, c.settle.ensures)
    (leave c.args.client c.args.name c.release.ensures.released c.self.invariant walking).0
