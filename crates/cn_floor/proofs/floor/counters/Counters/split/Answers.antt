use Rattle.cn_floor.proofs.Common.{rules, arith}
use Rattle.cn_floor.proofs.InStates.Spreads.{first-there, splits-at}
use Rattle.cn_floor.proofs.InStates.Sharing.{splits}
use Rattle.cn_floor.proofs.floor.counters.Counters.split.Goals as goal

pub split_seat-requires : goal.split_seat-requires
split_seat-requires g c = (
  search rules,
  first-there c.self.inside c.self.invariant c.self.view_is,
  splits-at c.self.inside c.self.invariant c.self.view_is
      (splits c.args.self.now.start _ g.T.Portion.quota c.args.seat.now.me.0 c.requires.slots.1
      (omega (arith, c.requires.quota.0, c.requires.quota.1))),
)
