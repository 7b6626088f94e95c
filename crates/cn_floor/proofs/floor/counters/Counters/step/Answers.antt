use Rattle.cn_floor.proofs.Common.{◌≡◌, ℕ, ◌^◌, ◌%◌, ◌+◌, ◌*◌, [], length, sym, ap, ◌∙◌, arith, FloorValue, PostValue, GoesOn}
use Rattle.cn_floor.proofs.InStates.Steps.{lets-on}
use Rattle.cn_floor.proofs.InStates.Spreads.{at-word, there}
use Rattle.cn_floor.proofs.InStates.Ledgers.{end-there}
use Rattle.cn_floor.proofs.InLane.Posts.{post-kept}
use Rattle.cn_floor.proofs.InLane.Swept.{kin}
use Rattle.cn_floor.proofs.floor.counters.Counters.step.Goals as goal

pub fetch_add-requires : goal.fetch_add-requires
fetch_add-requires g c =
    let home = ap (λ (p : PostValue). p.home) c.post.view_is ∙ c.requires.own in
    let was = c.post.invariant in
    let stride : c.args.stride ≡ c.self.inside.stride =
    c.requires.stride ∙ ap (λ (f : FloorValue). f.start.stride) (sym c.self.view_is) ∙ c.self.invariant.apart in
    let place : c.place_of-place.result ≡ c.self.inside.stride * c.word_of.result =
    c.place_of-place.ensures ∙ ap (λ (k : ℕ). k * c.word_of.result) stride in (
      ap (λ (f : FloorValue). f.table) (home ∙ sym c.self.view_is),
      there c.self.inside c.self.invariant c.self.view_is place
          (omega (arith, c.word_of.ensures.word, end-there c.args.self.now.start.network.table c.args.end c.requires.stands)),
      at-word c.self.inside c.self.invariant c.self.view_is (λ n. (n + 1) % 2 ^ 64)
          (λ n new. (new.1 ≡ []) × GoesOn g.T.StepOf.going c.post.inside.seat.me.0 n new.0) place
          (lets-on c.args.self.now.start _ _ c.post.inside.seat.me g.T.StepOf.going c.args._token c.args._client c.args._wire c.args.end
          c.word_of.result c.requires.going c.word_of.ensures.word was.no_slot was.idle (ap (λ (f : FloorValue). f.start) home)
          (rw (← c.post.view_is) at c.requires.there)
          (was.wires ∙ ap (λ (f : FloorValue). length f.start.network.table.ends) home) c.requires.ends c.requires.stands),
    )

pub invariant_of-post : goal.invariant_of-post
invariant_of-post g c =
    let go = g.T.StepOf.going in
    let like = kin go.end c.fetch_add.result go.token go.client c.post.inside.seat.me.0 in
    post-kept c.post.inside _ _ c.post.invariant c.fetch_add.ensures.2.0 c.fetch_add.ensures.2.1.0 like.start like.loads like.wires
    (c.post.invariant.quota ∙ sym like.quota)
