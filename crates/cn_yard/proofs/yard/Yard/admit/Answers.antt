use Rattle.cn_yard.proofs.Common.{◌≡◌, ◌∙◌, ◌<◌, ℕ, List, length, refl, ap, arith, max, Inside, Keeps, Yard, count_of, lists_of, wire_of}
use Rattle.cn_yard.proofs.Bodies.{Relinked, Renamed, admits-renamed, after, free-read, keeps-relinked, keeps-renamed, relinked-by, renamed-by, with_records}
use Rattle.cn_yard.proofs.Wires.{closed, wires-are}
use Rattle.cn_yard.proofs.Readers.{kept-count}
use Rattle.cn_yard.proofs.yard.Yard.admit.Goals.{After-index, After-relink, After-set_client}
use Rattle.cn_yard.proofs.yard.Yard.admit.Goals as goal

-- ---- there is a free record, and the last of them is read

lists : (c : After-index) → lists_of c.self.inside ≡ c.args.self.now.lists
lists c = ap (λ (v : Yard). v.lists) c.self.view_is ∙ c.in_ok-reserve.ensures.lists

spare : (c : After-index) → count_of c.self.inside.lines.items c.self.inside.wires ≡ max 1 c.args.self.now.spare
spare c = ap (λ (v : Yard). v.spare) c.self.view_is ∙ c.in_ok-reserve.ensures.ok

-- so the lines are there
kept : (c : After-index) → (order : ℕ → List ℕ) × Keeps c.self.inside order
kept c = kept-count c.self.inside c.self.invariant c.self.inside.wires (omega (arith, spare c))

free : (c : After-index) → (c.index.result.now.last < length c.self.inside.records.items)
    × (wire_of c.self.inside.records.items c.index.result.now.last ≡ c.self.inside.wires)
free c =
    let (order, k) = kept c in
    let one = spare c in
    free-read c.self.inside order c.index.result.now k (grind arith) c.index.ensures

-- the wire is one of the yard's
within : (c : After-index) → c.args.wire < c.self.inside.wires
within c = rw (← wires-are c.self.inside, lists c) c.requires.wire

pub relink-requires-clause-number : goal.relink-requires-clause-number
relink-requires-clause-number c = rw c.deref_mut.ensures.value (free (goal.at.relink-requires-clause-number c).After-index).0

pub relink-requires-clause-wire : goal.relink-requires-clause-wire
relink-requires-clause-wire c =
    let (order, k) = kept (goal.at.relink-requires-clause-wire c).After-index in
    let h = within (goal.at.relink-requires-clause-wire c).After-index in
    let as_many = k.wires in
    rw c.deref_mut-2.ensures.value (omega arith)

pub relink-requires-clause-lined : goal.relink-requires-clause-lined
relink-requires-clause-lined c =
    let (order, k) = kept (goal.at.relink-requires-clause-lined c).After-index in
    rw (c.deref_mut.ensures.value, c.deref_mut-2.ensures.value, c.deref_mut-3.ensures.value) (order, k.lined)

-- ---- it moves to the wire

abbrev moved-yard : After-relink → Inside
moved-yard c = after c.self.inside c.relink.new.records c.relink.new.lines c.relink.new.marks

relinked : (c : After-relink) → Relinked c.self.inside (moved-yard c) c.index.result.now.last c.args.wire
relinked c =
    relinked-by c.self.inside c.relink.new.marks refl c.deref_mut.ensures.value c.deref_mut-2.ensures.value
    c.deref_mut-3.ensures.value c.deref_mut.ensures.len c.deref_mut-2.ensures.len c.deref_mut-3.ensures.len
    c.relink.ensures.kept c.relink.ensures.lined c.relink.ensures.words

pub set_client-requires : goal.set_client-requires
set_client-requires c =
    let here = goal.at.set_client-requires c in
    let len = (relinked here.After-relink).move.len in
    let within = (free here.After-index).0 in
    rw c.deref_mut-4.ensures.value (omega arith)

-- ---- and gets its client

abbrev named-yard : After-set_client → Inside
named-yard c = with_records (after c.self.inside c.relink.new.records c.relink.new.lines c.relink.new.marks) c.set_client.new.records

renamed : (c : After-set_client) → Renamed (after c.self.inside c.relink.new.records c.relink.new.lines c.relink.new.marks) (named-yard c)
    c.index.result.now.last c.args.client
renamed c =
    renamed-by (after c.self.inside c.relink.new.records c.relink.new.lines c.relink.new.marks)
    c.deref_mut-4.ensures.value c.deref_mut-4.ensures.len c.set_client.ensures

pub invariant_of-self : goal.invariant_of-self
invariant_of-self c =
    let here = goal.at.invariant_of-self c in
    let (order, k) = kept here.After-index in
    closed (keeps-renamed (keeps-relinked k (relinked here.After-relink)) (renamed here.After-set_client))

pub returns-clause-ok : goal.returns-clause-ok
returns-clause-ok c =
    let here = goal.at.returns-clause-ok c in
    let (order, k) = kept here.After-index in
    rw c.of.ensures
    (admits-renamed k (lists here.After-index) (spare here.After-index) (relinked here.After-relink)
    (renamed here.After-set_client) (free here.After-index).1 (within here.After-index))
