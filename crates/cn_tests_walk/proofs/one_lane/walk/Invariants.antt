use Rattle.std.proofs.Common.{◌≡◌}
use Rattle.cn_tests_walk.proofs.one_lane.walk.Given as goal

-- the lane stays on its floor
abbrev pub invariant-loop-token : goal.invariant-loop-token
invariant-loop-token l = l.lane.home ≡ l.fn.lane.home
