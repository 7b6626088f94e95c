use Rattle.cn_yard.proofs.Common.{◌<◌, ◌≤◌, length, arith, nat_tests}
use Rattle.cn_yard.proofs.Readers.{kept-record, live-number, live-read}
use Rattle.cn_yard.proofs.yard.Yard.is_live.Goals as goal

pub returns-then-at-len : goal.returns-then-at-len
returns-then-at-len c =
    let y = c.self.inside in
    let h : c.args.token < length y.records.items = omega (arith, c.if-at-len.true) in
    let (order, k) = kept-record y c.self.invariant (omega (arith, h)) in
    rw (← c.self.view_is) (live-read y order k c.args.token c.index.result.now h (rw c.number-at.ensures at c.index.ensures))

pub returns-else-at-len : goal.returns-else-at-len
returns-else-at-len c =
    let y = c.self.inside in
    let past : length y.records.items ≤ c.args.token = omega (arith, c.if-at-len.false) in
    rw (← c.self.view_is)
    (λ t. absurd (grind (arith, nat_tests)), λ s. absurd (let h = live-number y c.self.invariant _ s in omega arith))
