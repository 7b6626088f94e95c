use Rattle.std.proofs.Common.{◌≡◌}
use Rattle.cn_tests_core.proofs.calls.single_replies.Given as goal

-- the core stays on its network
abbrev pub invariant-loop-event : goal.invariant-loop-event
invariant-loop-event l = l.core.network ≡ l.fn.core.network
