use Rattle.cn_yard.proofs.Common.{arith}
use Rattle.cn_yard.proofs.Readers.{live-number, live-there}
use Rattle.cn_yard.proofs.yard.Yard.wire_of.Goals as goal

pub index-requires : goal.index-requires
index-requires c =
    let y = c.self.inside in
    omega (arith, c.number.ensures, live-number y c.self.invariant c.args.token (rw (← c.self.view_is) at c.requires))

pub returns : goal.returns
returns c =
    let y = c.self.inside in
    let r = c.index.result.now in (
      r.client,
      rw (← c.self.view_is) (live-there y c.self.invariant c.args.token (rw (← c.self.view_is) at c.requires) r
          (rw c.number.ensures at c.index.ensures)),
    )
