use Rattle.cn_floor.proofs.Common.{◌≡◌, ℕ, ◌^◌, ◌%◌, ◌+◌, ◌-◌, [], length, refl, sym, ap, ◌∙◌, arith, FloorValue, PostValue, ComesIn}
use Rattle.cn_floor.proofs.InStates.Spreads.{at-word, there}
use Rattle.cn_floor.proofs.InStates.Enters.{lets-in}
use Rattle.cn_floor.proofs.InLane.Posts.{entered-wires, post-kept}
use Rattle.cn_floor.proofs.floor.counters.Counters.enter.Goals as goal

pub fetch_add-requires : goal.fetch_add-requires
fetch_add-requires g c =
    let home = ap (λ (p : PostValue). p.home) c.post.view_is ∙ c.requires.own in
    let was = c.post.invariant in (
      ap (λ (f : FloorValue). f.table) (home ∙ sym c.self.view_is),
      there c.self.inside c.self.invariant c.self.view_is c.place_of-place.ensures (omega (arith, c.requires.entry)),
      at-word c.self.inside c.self.invariant c.self.view_is (λ n. (n + 1) % 2 ^ 64)
          (λ n new. (new.1 ≡ []) × ComesIn g.T.EnterOf.coming c.post.inside.seat.me.0 new.0) c.place_of-place.ensures
          (lets-in c.args.self.now.start _ _ c.post.inside.seat.me g.T.EnterOf.coming c.args._token c.args._client c.args.entry
          c.requires.coming was.no_slot was.idle (ap (λ (f : FloorValue). f.start) home) c.requires.entry
          (was.wires ∙ ap (λ (f : FloorValue). length f.start.network.table.ends) home) (rw (← c.post.view_is) at c.requires.quota)),
    )

pub invariant_of-post : goal.invariant_of-post
invariant_of-post g c =
    let cm = g.T.EnterOf.coming in
    post-kept c.post.inside _ _ c.post.invariant c.fetch_add.ensures.2.0 c.fetch_add.ensures.2.1.0 refl refl
    (entered-wires cm.token cm.client cm.entry c.post.inside.seat.me.0) (ap (λ (k : ℕ). k - 1) c.post.invariant.quota)
