use Rattle.cn_floor.proofs.Common.{◌≡◌, ◌^◌, ◌%◌, ◌+◌, [], length, sym, ap, ◌∙◌, arith, FloorValue, PostValue, View, on, AllGoOn}
use Rattle.cn_floor.proofs.InStates.Spreads.{at-word, there}
use Rattle.cn_floor.proofs.InStates.Ledgers.{end-there}
use Rattle.cn_floor.proofs.InStates.Sweeps.{all_go-on}
use Rattle.cn_floor.proofs.InLane.Posts.{post-kept}
use Rattle.cn_floor.proofs.InLane.Swept.{kin-by}
use Rattle.cn_floor.proofs.floor.counters.Counters.sweep.Goals as goal

pub fetch_add-requires : goal.fetch_add-requires
fetch_add-requires g c =
    let home = ap (λ (p : PostValue). p.home) c.post.view_is ∙ c.requires.own in
    let was = c.post.invariant in (
      ap (λ (f : FloorValue). f.table) (home ∙ sym c.self.view_is),
      there c.self.inside c.self.invariant c.self.view_is c.place_of-place.ensures
          (omega (arith, c.word_of.ensures.word, end-there c.args.self.now.start.network.table c.args.end c.requires.stands)),
      at-word c.self.inside c.self.invariant c.self.view_is (λ n. (n + c.args.tokens) % 2 ^ 64)
          (λ n new. (new.1 ≡ []) × AllGoOn g.T.SweepOf.sweeping c.post.inside.seat.me.0 n new.0) c.place_of-place.ensures
          (all_go-on c.args.self.now.start _ _ c.post.inside.seat.me g.T.SweepOf.sweeping c.args._wire c.args.end c.args.tokens
          c.word_of.result c.requires.sweeping was.no_slot was.idle (ap (λ (f : FloorValue). f.start) home)
          (rw (← c.post.view_is) at c.requires.once)
          (was.wires ∙ ap (λ (f : FloorValue). length f.start.network.table.ends) home) c.requires.wire
          (rw (← c.post.view_is) at c.requires.tokens) c.requires.ends c.requires.stands c.word_of.ensures.word),
    )

pub invariant_of-post : goal.invariant_of-post
invariant_of-post g c =
    let s = g.T.SweepOf.sweeping in
    let v : View = c.post.inside.seat.me.0 in
    let like = kin-by s.end c.fetch_add.result (on v.tokens s.wire) v in
    post-kept c.post.inside _ _ c.post.invariant c.fetch_add.ensures.2.0 c.fetch_add.ensures.2.1.0 like.start like.loads like.wires
    (c.post.invariant.quota ∙ sym like.quota)

pub returns-clause-home : goal.returns-clause-home
returns-clause-home g c =
    let s = g.T.SweepOf.sweeping in
    let v : View = c.post.inside.seat.me.0 in
    let start = ap (λ (x : View). x.start) c.fetch_add.ensures.2.1.0 ∙ (kin-by s.end c.fetch_add.result (on v.tokens s.wire) v).start in
    (λ i. record { table = c.fetch_add.ensures.0 i; start = start i }) ∙ ap (λ (p : PostValue). p.home) c.post.view_is
