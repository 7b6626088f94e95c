use Rattle.cn_walk.proofs.Common.{rules, ◌≡◌, ◌∙◌, take, ap, take_all, tokens_in, FloorValue, LaneValue}
use Rattle.cn_walk.proofs.Ordered.{next-in-list, next-in-order, none-in-order}
use Rattle.cn_walk.proofs.Walks.{IsHeld, comes-next, names-one, none_by, stays, walked}
use Rattle.cn_walk.proofs.walking.walk_each.Goals as goal

pub loop-client-init : goal.loop-client-init
loop-client-init g c =
    record {
      held = assumption c.lane_laws.ensures;
      out = c.requires.out;
      walks = stays c.args.lane;
      ordered = λ sole. (sole, none-in-order c.args.lane);
    }

pub loop-client-preserved : goal.loop-client-preserved
loop-client-preserved g c =
    let was = c.loop-client.invariant in
    let laws = c.lane_laws-in-loop-client.ensures in
    let named = c.walk_one-name.ensures in
    let b : LaneValue = c.walk_one-name.new.lane in
    let held : IsHeld b = assumption laws in
    let out : tokens_in b.yard.lists ≡ 0 = rw named.yard was.out in
    let home = ap (λ (h : FloorValue). h.start) (was.walks.home ∙ c.requires.own) in
    record {
      held = held;
      out = out;
      walks = comes-next _ _ _ _ (record { id = 0; entry = 0 }) _ c.loop-client-test.true was.walks
          (names-one _ _ _ _ _ named (none_by _ was.held was.out) (none_by _ held out));
      ordered = λ sole.
          let (here, before) = was.ordered sole in
          let next = next-in-order c.args.floor.now.start _ b _ _ _ c.start_laws.ensures home named
          (rw laws.tokens at out) here in
          (next.0, next-in-list c.args.lane c.loop-client.lane b _ (record { id = 0; entry = 0 }) _ c.loop-client-test.true before next.1);
    }

pub returns-clause-walked : goal.returns-clause-walked
returns-clause-walked g c =
    let was = c.loop-client.invariant in
    let held : IsHeld c.args.lane = assumption c.lane_laws.ensures in
    let whole : take c.loop-client.client-index c.args.clients.now ≡ c.args.clients.now = take_all _ _ (search rules) in
    walked c.args.lane c.loop-client.lane c.args.clients.now (rw whole at was.walks) was.out
    (none_by c.args.lane held c.requires.out) (none_by c.loop-client.lane was.held was.out)

pub returns-clause-in_order : goal.returns-clause-in_order
returns-clause-in_order g c sole =
    let whole : take c.loop-client.client-index c.args.clients.now ≡ c.args.clients.now = take_all _ _ (search rules) in
    rw whole at ((c.loop-client.invariant.ordered sole).1)
