use Rattle.cn_floor.proofs.Common.{rules, ◌<◌, List, length, get_or, arith, Grant}
use Rattle.cn_floor.proofs.AtClose.Holding.{all-stand, name-low, one-more}
use Rattle.cn_floor.proofs.floor.closed_floor.put_holders.Goals as goal

pub bounds-holders-grant : goal.bounds-holders-grant
bounds-holders-grant c =
    let grants : List Grant = c.args.grants.now in
    let low : c.loop-grant.grant-index < length grants = omega (arith, c.loop-grant-test.true) in
    omega (
      arith,
      name-low grants c.requires.names c.loop-grant.grant-index (record { client = 0; exit = 0; visit = 0; name = 0 }) low,
      c.loop-grant.invariant.0,
    )

pub offset_bounds-holders-grant : goal.offset_bounds-holders-grant
offset_bounds-holders-grant c =
    let grants : List Grant = c.args.grants.now in
    let none : Grant = record { client = 0; exit = 0; visit = 0; name = 0 } in
    let low : (get_or grants c.loop-grant.grant-index none).name < length c.loop-grant.holders =
    omega (arith, name-low grants c.requires.names c.loop-grant.grant-index none c.loop-grant-test.true, c.loop-grant.invariant.0) in
    search rules

pub loop-grant-preserved : goal.loop-grant-preserved
loop-grant-preserved c =
    one-more c.args.grants.now c.requires.names c.loop-grant.grant-index (record { client = 0; exit = 0; visit = 0; name = 0 })
    c.loop-grant.holders c.loop-grant-test.true c.loop-grant.invariant

pub returns : goal.returns
returns c =
    all-stand c.args.grants.now c.requires.names c.loop-grant.holders (
      c.loop-grant.invariant.0,
      λ j d l. c.loop-grant.invariant.1 j d (omega (arith, c.loop-grant-test.false)),
    )
