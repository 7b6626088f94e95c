use Rattle.cn_floor.proofs.Common.{rules}
use Rattle.cn_floor.proofs.InStates.Spreads.{first-there, joins-at}
use Rattle.cn_floor.proofs.InStates.Sharing.{joins}
use Rattle.cn_floor.proofs.floor.counters.Counters.join.Goals as goal

pub join_seat-requires : goal.join_seat-requires
join_seat-requires c = (
  search rules,
  search rules,
  search rules,
  first-there c.self.inside c.self.invariant c.self.view_is,
  joins-at c.self.inside c.self.invariant c.self.view_is
      (joins c.args.self.now.start _ _ _ _ c.requires.slots.1 c.requires.slots.3 c.requires.out),
)
