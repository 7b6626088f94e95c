use Rattle.std.proofs.Common.{◌≡◌}
use Rattle.cn_tests_walk.proofs.own_threads.without_a_list.CrowdShared.name_all.Given as goal

-- the lane stays on its floor
abbrev pub invariant-loop-client : goal.invariant-loop-client
invariant-loop-client l = l.lane.home ≡ l.fn.lane.home
