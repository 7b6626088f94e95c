use Rattle.cn_yard.proofs.Common.{◌≡◌, ◌<◌, length, ap, ◌∙◌, arith, get_or_read, Record, client_of, wire_of, no_record}
use Rattle.cn_yard.proofs.Bodies.{Relinked, after, keeps-relinked, relinked-by, releases-relinked}
use Rattle.cn_yard.proofs.Wires.{closed, kept-live, live, there-live}
use Rattle.cn_yard.proofs.Readers.{live-number}
use Rattle.cn_yard.proofs.yard.Yard.release.Goals.{After-relink}
use Rattle.cn_yard.proofs.yard.Yard.release.Goals as goal

pub relink-requires-clause-number : goal.relink-requires-clause-number
relink-requires-clause-number c = rw (c.number-number.ensures, c.deref_mut.ensures.value)
    (live-number c.self.inside c.self.invariant c.args.token (rw (← c.self.view_is) at c.requires))

pub relink-requires-clause-wire : goal.relink-requires-clause-wire
relink-requires-clause-wire c =
    let (order, k) = kept-live c.self.inside c.args.token c.self.invariant (rw (← c.self.view_is) at c.requires) in
    let as_many = k.wires in rw c.deref_mut-2.ensures.value (omega arith)

pub relink-requires-clause-lined : goal.relink-requires-clause-lined
relink-requires-clause-lined c =
    let (order, k) = kept-live c.self.inside c.args.token c.self.invariant (rw (← c.self.view_is) at c.requires) in
    rw (c.deref_mut.ensures.value, c.deref_mut-2.ensures.value, c.deref_mut-3.ensures.value) (order, k.lined)

pub index-requires : goal.index-requires
index-requires c =
    let y = c.self.inside in
    let within = live-number y c.self.invariant c.args.token (rw (← c.self.view_is) at c.requires) in
    omega (arith, c.number-number.ensures)

relinked : (c : After-relink)
    → Relinked c.self.inside (after c.self.inside c.relink.new.records c.relink.new.lines c.relink.new.marks) c.args.token
    c.self.inside.wires
relinked c =
    relinked-by c.self.inside c.relink.new.marks c.number-number.ensures c.deref_mut.ensures.value
    c.deref_mut-2.ensures.value c.deref_mut-3.ensures.value c.deref_mut.ensures.len c.deref_mut-2.ensures.len
    c.deref_mut-3.ensures.len c.relink.ensures.kept c.relink.ensures.lined c.relink.ensures.words

pub invariant_of-self : goal.invariant_of-self
invariant_of-self c =
    let (order, k) = kept-live c.self.inside c.args.token c.self.invariant (rw (← c.self.view_is) at c.requires) in
    closed (keeps-relinked k (relinked (goal.at.invariant_of-self c).After-relink))

pub returns-clause-client : goal.returns-clause-client
returns-clause-client c =
    let stands = rw (← c.self.view_is) at c.requires in
    let (order, k) = kept-live c.self.inside c.args.token c.self.invariant stands in
    let y = c.self.inside in
    let z = after y c.relink.new.records c.relink.new.lines c.relink.new.marks in
    let re = relinked (goal.at.returns-clause-client c).After-relink in
    let within : c.args.token < length z.records.items = rw re.move.len (live y order k c.args.token stands).0 in
    let at = rw c.number-number.ensures at c.index.ensures in
    let r = get_or_read z.records.items c.args.token c.index.result.now within at no_record in
    let client : c.index.result.now.client ≡ client_of y.records.items c.args.token =
    ap (λ (x : Record). x.client) r ∙ re.move.client c.args.token in
    (wire_of y.records.items c.args.token, rw (← c.self.view_is, client) (there-live y order k c.args.token stands))

pub returns-clause-released : goal.returns-clause-released
returns-clause-released c =
    let stands = rw (← c.self.view_is) at c.requires in
    let (order, k) = kept-live c.self.inside c.args.token c.self.invariant stands in
    rw (← c.self.view_is) (releases-relinked k (relinked (goal.at.returns-clause-released c).After-relink) stands)
