use Rattle.cn_handles.proofs.Common.{◌≤◌, GoesOn, IsWithin}
use Rattle.cn_handles.proofs.places.FloorWithPlaces.search.Given as goal

-- it passed so many rows at least, and none of them had one
abbrev pub invariant-loop-passed : goal.invariant-loop-passed
invariant-loop-passed l = GoesOn 0 l.fn.search l.search × IsWithin l.search × (l.passed ≤ l.search.on.row)
