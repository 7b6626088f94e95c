use Rattle.cn_yard.proofs.Common.{arith, nat_tests}
use Rattle.cn_yard.proofs.Wires.{kept-live}
use Rattle.cn_yard.proofs.Readers.{live-number, next-read, wire-read}
use Rattle.cn_yard.proofs.yard.Yard.next.Goals as goal

pub index-record-requires : goal.index-record-requires
index-record-requires c =
    let y = c.self.inside in
    omega (arith, c.number.ensures, live-number y c.self.invariant c.args.token (rw (← c.self.view_is) at c.requires))

pub index-requires : goal.index-requires
index-requires c =
    let (order, k) = kept-live c.self.inside c.args.token c.self.invariant (rw (← c.self.view_is) at c.requires) in
    let y = c.self.inside in
    let as_many = k.wires in
    let h = wire-read y order k c.args.token c.index-record.result.now (rw (← c.self.view_is) at c.requires)
    (rw c.number.ensures at c.index-record.ensures) in
    omega arith

pub returns-then-index-number : goal.returns-then-index-number
returns-then-index-number c wire client stands =
    let (order, k) = kept-live c.self.inside c.args.token c.self.invariant (rw (← c.self.view_is) at c.requires) in
    let y = c.self.inside in
    let seen = next-read y order k c.args.token c.index-record.result.now c.index.result.now wire client
    (rw (← c.self.view_is) at c.requires) (rw c.number.ensures at c.index-record.ensures) c.index.ensures
    (rw (← c.self.view_is) at stands) in
    rw (← c.self.view_is) (grind (arith, nat_tests, seen, c.if-index-number.true, c.number-2.ensures))

pub returns : goal.returns
returns c wire client stands =
    let (order, k) = kept-live c.self.inside c.args.token c.self.invariant (rw (← c.self.view_is) at c.requires) in
    let y = c.self.inside in
    let seen = next-read y order k c.args.token c.index-record.result.now c.index.result.now wire client
    (rw (← c.self.view_is) at c.requires) (rw c.number.ensures at c.index-record.ensures) c.index.ensures
    (rw (← c.self.view_is) at stands) in
    rw (← c.self.view_is, c.of.ensures) (grind (arith, nat_tests, seen, c.if-index-number.false, c.number-2.ensures))
