use Rattle.cn_yard.proofs.Common.{◌≡◌, ◌∙◌, ◌<◌, ℕ, List, [], sym, ap, arith, Keeps, Line, count_of, lists_of, nat_tests, on, nil_from_length, first_of}
use Rattle.cn_yard.proofs.Wires.{wires-are}
use Rattle.cn_yard.proofs.Readers.{count-all, count-read, first-read, kept-count}
use Rattle.cn_yard.proofs.yard.Yard.first.Goals.{After-count_on}
use Rattle.cn_yard.proofs.yard.Yard.first.Goals as goal

counted : (c : After-count_on) → c.count_on.result ≡ count_of c.self.inside.lines.items c.args.wire
counted c = c.count_on.ensures ∙ ap (λ (ls : List Line). count_of ls c.args.wire) c.deref.ensures.value

within : (c : After-count_on) → c.args.wire < c.self.inside.wires
within c = rw (← c.self.view_is, wires-are c.self.inside) at c.requires

-- if somebody is counted the lines are there
kept : (c : After-count_on) → 0 < c.count_on.result → (order : ℕ → List ℕ) × Keeps c.self.inside order
kept c some = kept-count c.self.inside c.self.invariant c.args.wire (omega (arith, some, counted c))

pub index-requires : goal.index-requires
index-requires c =
    let here = (goal.at.index-requires c).After-count_on in
    let (order, k) = kept here (omega (arith, c.if-count_on-eq0.false)) in
    let y = c.self.inside in
    omega (arith, k.wires, within here)

pub returns-then-count_on-eq0 : goal.returns-then-count_on-eq0
returns-then-count_on-eq0 c =
    let here = (goal.at.returns-then-count_on-eq0 c).After-count_on in
    let y = c.self.inside in
    let none : on (lists_of y) c.args.wire ≡ [] =
    nil_from_length (on (lists_of y) c.args.wire)
    (count-all y c.self.invariant c.args.wire (within here) ∙ sym (counted here) ∙ c.if-count_on-eq0.true) in
    rw (← c.self.view_is) (sym (ap first_of none))

pub returns : goal.returns
returns c =
    let here = (goal.at.returns c).After-count_on in
    let (order, k) = kept here (omega (arith, c.if-count_on-eq0.false)) in
    let y = c.self.inside in
    let read = count-read y order k c.args.wire c.index.result.now (omega (arith, within here)) c.index.ensures in
    let first = first-read y order k c.args.wire c.index.result.now (within here) c.index.ensures in
    rw (← c.self.view_is, c.of.ensures) (grind (arith, nat_tests, first, read, counted here, c.if-count_on-eq0.false))
