use Rattle.cn_floor.proofs.Common.{◌≡◌, ℕ, [], ◌*◌, rules, refl, arith, Looks}
use Rattle.cn_floor.proofs.InStates.Spreads.{at-word, first-there}
use Rattle.cn_floor.proofs.InStates.Sharing.{looks}
use Rattle.cn_floor.proofs.floor.counters.Counters.look.Goals as goal

pub load-requires : goal.load-requires
load-requires g c =
    let first : 0 ≡ c.self.inside.stride * 0 = omega arith in (
      search rules,
      first-there c.self.inside c.self.invariant c.self.view_is,
      at-word c.self.inside c.self.invariant c.self.view_is (λ n. n)
          (λ n new. (◌≡◌ {A = ℕ} 0 0) × (new.1 ≡ []) × Looks g.T.LoadOf.start c.args.seat.now.me.0 new.0) first
          (looks c.args.self.now.start _ _ 0 0 c.args.seat.now.me g.T.LoadOf.start refl c.requires.hears c.requires.slots),
    )
