use Rattle.cn_handles.proofs.Common.{◌≡◌}
use Rattle.cn_handles.proofs.handles.held_lane.HeldLane.take_back.Given as goal

-- so many lanes with nothing were let go
abbrev pub invariant-loop-met : goal.invariant-loop-met
invariant-loop-met l = l.gone.number ≡ l.met
