use Rattle.cn_floor.proofs.Common.{◌≡◌, length, [], replicate, sym, ap, ◌∙◌, subst, arith, PostValue, tokens_in, start_after, FitsLanes}
use Rattle.cn_floor.proofs.InLane.Yards.{nobody-in}
use Rattle.cn_floor.proofs.floor.Floor.begin.Goals as goal

pub lay-requires : goal.lay-requires
lay-requires c = record { few = (omega (arith, c.requires.few.0), omega (arith, c.requires.few.1)) }

pub returns-in-Ok-clause-lane : goal.returns-in-Ok-clause-lane
returns-in-Ok-clause-lane c =
    let is = c.in-Ok.ensures.post in
    (λ i. record { home = (is i).home; view = (is i).view; yard = c.args.yard; room = 0 })

pub invariant_of-lane : goal.invariant_of-lane
invariant_of-lane c =
    let is = c.in-Ok.ensures.post in
    let floor : c.in-Ok.floor.start ≡ start_after c.args.words c.args.quota = c.in-Ok.ensures.floor in
    let tokens : c.args.yard.lists ≡ c.in-Ok.post.view.tokens =
    c.requires.idle ∙ (λ i. replicate (length ((sym floor) i).network.table.ends) []) ∙ sym (ap (λ (p : PostValue). p.view.tokens) is) in
    let nobody : tokens_in c.args.yard.lists ≡ 0 = ap tokens_in c.requires.idle ∙ nobody-in (length c.args.words.network.table.ends) in
    let small : FitsLanes (start_after c.args.words c.args.quota) = record { quota = c.requires.few.1; few = c.requires.few.0 } in
    record {
      tokens = tokens;
      grants = c.new.ensures.items ∙ sym (ap (λ (p : PostValue). p.view.grants) is);
      small = subst FitsLanes (sym (ap (λ (p : PostValue). p.home.start) is ∙ floor)) small;
      few = omega (arith, nobody, c.requires.few, ap (λ (p : PostValue). p.view.quota) is);
      room = omega (arith, nobody, ap length c.new.ensures.items);
    }
