use Rattle.std.proofs.Common.{◌≡◌}
use Rattle.cn_tests_walk.proofs.own_threads.name_of.Given as goal

-- the lane stays on its floor
abbrev pub invariant-loop : goal.invariant-loop
invariant-loop l = l.lane.home ≡ l.fn.lane.home
