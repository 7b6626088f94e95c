use Rattle.cn_floor.proofs.Common.{◌≡◌, ◌^◌, ◌%◌, ◌+◌, [], length, sym, ap, ◌∙◌, arith, FloorValue, PostValue, View, AllComeIn, EnteringAll}
use Rattle.cn_floor.proofs.InStates.Enters.{lets-all-in}
use Rattle.cn_floor.proofs.InStates.Spreads.{at-word, there}
use Rattle.cn_floor.proofs.InLane.Posts.{kept-by-all, post-kept}
use Rattle.cn_floor.proofs.floor.counters.Counters.enter_all.Goals as goal

pub fetch_add-requires : goal.fetch_add-requires
fetch_add-requires g c =
    let home = ap (λ (p : PostValue). p.home) c.post.view_is ∙ c.requires.own in
    let was = c.post.invariant in (
      ap (λ (f : FloorValue). f.table) (home ∙ sym c.self.view_is),
      there c.self.inside c.self.invariant c.self.view_is c.place_of.ensures (omega (arith, c.requires.entry)),
      at-word c.self.inside c.self.invariant c.self.view_is (λ n. (n + c.args.count) % 2 ^ 64)
          (λ n new. (new.1 ≡ []) × AllComeIn g.T.EnterAllOf.entering c.post.inside.seat.me.0 new.0) c.place_of.ensures
          (lets-all-in c.args.self.now.start _ _ c.post.inside.seat.me g.T.EnterAllOf.entering c.args._clients.now c.args.entry c.args.count
          c.requires.entering was.no_slot was.idle (ap (λ (f : FloorValue). f.start) home) c.requires.entry
          (was.wires ∙ ap (λ (f : FloorValue). length f.start.network.table.ends) home)
          (rw (← c.post.view_is) at c.requires.quota) c.requires.count),
    )

pub invariant_of-post : goal.invariant_of-post
invariant_of-post g c =
    let e = g.T.EnterAllOf.entering in
    let many : length e.clients ≡ c.args.count = ap (λ (x : EnteringAll). length x.clients) c.requires.entering ∙ c.requires.count in
    let kept = kept-by-all e.clients e.entry 0 (length e.clients) c.post.inside.seat.me.0
    (omega (arith, many, rw (← c.post.view_is) at c.requires.quota)) in
    post-kept c.post.inside _ _ c.post.invariant c.fetch_add.ensures.2.0 c.fetch_add.ensures.2.1.0 kept.start kept.loads kept.wires
    (omega (arith, c.post.invariant.quota, kept.quota, many))

pub returns-clause-home : goal.returns-clause-home
returns-clause-home g c =
    let e = g.T.EnterAllOf.entering in
    let many : length e.clients ≡ c.args.count = ap (λ (x : EnteringAll). length x.clients) c.requires.entering ∙ c.requires.count in
    let kept = kept-by-all e.clients e.entry 0 (length e.clients) c.post.inside.seat.me.0
    (omega (arith, many, rw (← c.post.view_is) at c.requires.quota)) in
    let start = ap (λ (v : View). v.start) c.fetch_add.ensures.2.1.0 ∙ kept.start in
    (λ i. record { table = c.fetch_add.ensures.0 i; start = start i }) ∙ ap (λ (p : PostValue). p.home) c.post.view_is
