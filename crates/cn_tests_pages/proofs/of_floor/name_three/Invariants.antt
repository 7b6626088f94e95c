use Rattle.std.proofs.Common.{◌≡◌}
use Rattle.cn_tests_pages.proofs.of_floor.name_three.Given as goal

abbrev pub invariant-loop : goal.invariant-loop
invariant-loop l = l.lane.home ≡ l.floor
