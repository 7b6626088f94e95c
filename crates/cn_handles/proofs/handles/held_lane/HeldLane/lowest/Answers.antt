use Rattle.cn_handles.proofs.Common.{◌≡◌, refl, subst, tokens_in, LaneValue, nobody-there}
use Rattle.cn_handles.proofs.handles.held_lane.HeldLane.lowest.Goals as goal

pub returns-in-None-clause-refused : goal.returns-in-None-clause-refused
returns-in-None-clause-refused c =
    let none : tokens_in c.self.inside.lane.yard.lists ≡ 0 =
    nobody-there c.self.inside.lane.yard.lists (c.lowest.ensures.none c.in-None.is) in
    (c.args.self.now, refl, subst (λ (l : LaneValue). tokens_in l.yard.lists ≡ 0) c.self.view_is none)
