use Rattle.std.proofs.Common.{◌≡◌}
use Rattle.cn_tests_walk.proofs.ample_memory.walk_all_out.Given as goal

-- the lane stays on its floor
abbrev pub invariant-loop-client : goal.invariant-loop-client
invariant-loop-client l = l.lane.home ≡ l.fn.lane.home
