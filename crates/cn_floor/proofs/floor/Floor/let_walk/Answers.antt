use Rattle.cn_floor.proofs.Common.{◌≡◌, [], length, replicate, sym, ap, ◌∙◌, subst, arith, FloorValue, LaneValue, Lists, lane_of, on, tokens_in, nil_from_length, nobody-on, FitsLanes}
use Rattle.cn_floor.proofs.AtClose.Rises.{all-empty}
use Rattle.cn_floor.proofs.floor.Floor.let_walk.Goals as goal

pub walk-answer-requires-clause-out : goal.walk-answer-requires-clause-out
walk-answer-requires-clause-out g c u =
    let held : lane_of c.lane.inside ≡ c.args.lane.now = c.lane.view_is in
    let nobody : tokens_in c.lane.inside.yard.lists ≡ 0 = ap (λ (l : LaneValue). tokens_in l.yard.lists) held ∙ c.requires.out in
    subst (λ (ls : Lists). on ls u ≡ []) c.lane.invariant.tokens
    (nil_from_length (on c.lane.inside.yard.lists u) (nobody-on c.lane.inside.yard.lists nobody u))

pub invariant_of-lane-2 : goal.invariant_of-lane-2
invariant_of-lane-2 g c =
    let was = c.lane.invariant in
    let left = c.walk-answer.ensures.left in
    let held : lane_of c.lane.inside ≡ c.args.lane.now = c.lane.view_is in
    let nobody : tokens_in c.lane.inside.yard.lists ≡ 0 = ap (λ (l : LaneValue). tokens_in l.yard.lists) held ∙ c.requires.out in
    record {
      tokens = all-empty c.lane.inside.yard.lists nobody ∙ (λ x. replicate (length (was.tokens x)) []) ∙ sym left.gone;
      grants = c.walk-answer.ensures.granted;
      small = subst FitsLanes (ap (λ (h : FloorValue). h.start) (sym c.walk-answer.ensures.home)) was.small;
      few = omega (arith, was.few, left.quota);
      room = omega (
        arith,
        c.in-Ok.ensures.ok,
        c.saturating_sub-lane-inside.ensures,
        c.walk-answer.ensures.capacity,
        ap length c.walk-answer.ensures.granted,
        left.grants,
        ap length (c.make_way.ensures.items ∙ was.grants),
        c.count-many.ensures,
      );
    }
