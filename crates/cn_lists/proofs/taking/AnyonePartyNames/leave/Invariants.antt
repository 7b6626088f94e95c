use Rattle.cn_lists.proofs.Common.{◌≡◌, ℕ, ◌+◌, ◌-◌, ◌<◌, get_or}
use Rattle.cn_spec.specs.Step as step
use Rattle.cn_lists.proofs.taking.AnyonePartyNames.leave.Given as goal

-- so far each place has its name, and those before are as they were
abbrev pub invariant-loop-place : goal.invariant-loop-place
invariant-loop-place l = record {
  kept : (k : ℕ) → k < l.at → get_or l.names k 0 ≡ get_or l.initial.names k 0;
  each : (k : ℕ) → k < l.place → get_or l.names (l.at + k) 0 ≡ step.name_of l.width l.exit (l.first + k) - l.base;
}
