use Rattle.cn_floor.proofs.Common.{◌≡◌, [], rules, arith, Loads}
use Rattle.cn_floor.proofs.InStates.Loading.{loads}
use Rattle.cn_floor.proofs.InStates.Spreads.{at-word, there}
use Rattle.cn_floor.proofs.floor.counters.Counters.load_next.Goals as goal

pub load-requires : goal.load-requires
load-requires g c = (
  search rules,
  there c.self.inside c.self.invariant c.self.view_is c.place_of.ensures (omega (arith, c.requires.entry)),
  at-word c.self.inside c.self.invariant c.self.view_is (λ n. n)
      (λ n new. (new.1 ≡ []) × Loads g.T.LoadOf.start c.args.seat.now.me.0 n new.0) c.place_of.ensures
      (loads c.args.self.now.start _ _ c.args.seat.now.me g.T.LoadOf.start c.args.entry c.requires.hears c.requires.slots c.requires.next
      c.requires.entry),
)
