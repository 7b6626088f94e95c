use Rattle.std.proofs.Common.{◌≡◌}
use Rattle.cn_tests_walk.proofs.ample_memory.reserve_all.Given as goal

-- the lane stays on its floor
abbrev pub invariant-loop-room : goal.invariant-loop-room
invariant-loop-room l = l.lane.home ≡ l.fn.lane.home
