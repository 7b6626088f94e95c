use Rattle.cn_handles.proofs.handles.held_lane.HeldLane.first.Goals as goal

pub of-requires-clause-place : goal.of-requires-clause-place
of-requires-clause-place c = rw c.requires.own (rw c.in_ok-shared.ensures at c.in_ok-place.ensures)
