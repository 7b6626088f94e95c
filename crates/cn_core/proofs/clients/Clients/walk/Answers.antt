use Rattle.cn_core.proofs.Clientele.{go, live-found, stands-for}
use Rattle.cn_core.proofs.clients.Clients.walk.Goals as goal

pub move_to-requires-clause-live : goal.move_to-requires-clause-live
move_to-requires-clause-live c =
    let (client, found) = rw (← c.self.view_is) at c.requires.walking in live-found client c.self.invariant found

pub invariant_of-self : goal.invariant_of-self
invariant_of-self c =
    let (client, found) = rw (← c.self.view_is) at c.requires.walking in
    (go client c.move_to.ensures c.self.invariant found).1

pub returns-clause-walked : goal.returns-clause-walked
returns-clause-walked c client found =
    rw (← c.self.view_is) (go client c.move_to.ensures c.self.invariant (rw (← c.self.view_is) at found)).0

pub returns-clause-wires : goal.returns-clause-wires
returns-clause-wires c =
    let (client, found) = rw (← c.self.view_is) at c.requires.walking in
    let (from, stands) = stands-for c.self.inside.yard.lists c.self.inside.names client c.args.token c.self.invariant.stand found in
    rw (← c.self.view_is) (c.move_to.ensures from client stands).wires
