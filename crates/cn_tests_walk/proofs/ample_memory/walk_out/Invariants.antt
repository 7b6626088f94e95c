use Rattle.std.proofs.Common.{◌≡◌}
use Rattle.cn_tests_walk.proofs.ample_memory.walk_out.Given as goal

-- the lane stays on its floor
abbrev pub invariant-loop : goal.invariant-loop
invariant-loop l = l.lane.home ≡ l.fn.lane.home
