use Rattle.cn_handles.proofs.Common.{◌≡◌, ◌+◌}
use Rattle.cn_handles.proofs.places.searches.EmptyRow.of.Given as goal

-- none was counted in the rows so far
abbrev pub invariant-loop-at : goal.invariant-loop-at
invariant-loop-at l = (l.row + l.rows ≡ l.at) × (l.number ≡ 0)
