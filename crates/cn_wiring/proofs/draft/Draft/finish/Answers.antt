use Rattle.cn_wiring.proofs.Common.{◌≡◌, ℕ, List, length, map, refl, ap, ◌∙◌, times, Plan, loose, Table, balancer_of, plan_of_table, plan_of}
use Rattle.cn_wiring.proofs.Close.{closed-formed, closed-depth, out-is}
use Rattle.cn_wiring.proofs.draft.Draft.finish.Goals as goal

pub of_parts-requires : goal.of_parts-requires
of_parts-requires c =
    let d : Plan = plan_of c.self.inside in
    let t : Table = record {
      entries = c.self.inside.entries;
      width = length c.args.exits.now;
      balancers = c.self.inside.balancers;
      ends = c.in-Ok.ends.items;
    } in
    let all : (w : ℕ) → times w c.args.exits.now ≡ loose d w = rw (← c.self.view_is) at c.requires.each in
    let ends : map balancer_of c.in-Ok.ends.items ≡ c.self.inside.ends.items = c.in-Ok.ensures.plan ∙ c.deref.ensures.value in
    let plan : plan_of_table t ≡ d = ap (λ (es : List _). let p : Plan =
    record { entries = c.self.inside.entries; balancers = c.self.inside.balancers; ends = es } in p) ends in
    closed-formed t d c.args.exits.now c.self.invariant plan all c.in-Ok.ensures.exits c.requires.count refl

pub returns-in-Ok-clause-flow : goal.returns-in-Ok-clause-flow
returns-in-Ok-clause-flow c =
    let d : Plan = plan_of c.self.inside in
    let t : Table = record {
      entries = c.self.inside.entries;
      width = length c.args.exits.now;
      balancers = c.self.inside.balancers;
      ends = c.in-Ok.ends.items;
    } in
    let all : (w : ℕ) → times w c.args.exits.now ≡ loose d w = rw (← c.self.view_is) at c.requires.each in
    let ends : map balancer_of c.in-Ok.ends.items ≡ c.self.inside.ends.items = c.in-Ok.ensures.plan ∙ c.deref.ensures.value in
    let plan : plan_of_table t ≡ d = ap (λ (es : List _). let p : Plan =
    record { entries = c.self.inside.entries; balancers = c.self.inside.balancers; ends = es } in p) ends in
    rw c.of_parts.ensures (out-is t d c.args.exits.now c.self.invariant plan all c.in-Ok.ensures.exits)

pub returns-in-Ok-clause-depth : goal.returns-in-Ok-clause-depth
returns-in-Ok-clause-depth c =
    let d : Plan = plan_of c.self.inside in
    let t : Table = record {
      entries = c.self.inside.entries;
      width = length c.args.exits.now;
      balancers = c.self.inside.balancers;
      ends = c.in-Ok.ends.items;
    } in
    let all : (w : ℕ) → times w c.args.exits.now ≡ loose d w = rw (← c.self.view_is) at c.requires.each in
    let ends : map balancer_of c.in-Ok.ends.items ≡ c.self.inside.ends.items = c.in-Ok.ensures.plan ∙ c.deref.ensures.value in
    let plan : plan_of_table t ≡ d = ap (λ (es : List _). let p : Plan =
    record { entries = c.self.inside.entries; balancers = c.self.inside.balancers; ends = es } in p) ends in
    rw (c.of_parts.ensures, ← c.self.view_is) (closed-depth t d c.args.exits.now c.self.invariant plan all c.in-Ok.ensures.exits)
