use Rattle.cn_handles.proofs.Common.{◌≡◌, ◌+◌}
use Rattle.cn_handles.proofs.places.row.Row.uncounted.Given as goal

-- none was counted in the groups so far
abbrev pub invariant-loop-at : goal.invariant-loop-at
invariant-loop-at l = (l.group + l.groups ≡ l.at) × (l.number ≡ 0)
