use Rattle.cn_handles.proofs.Common.{◌≡◌, ◌≤◌, GoesOn}
use Rattle.cn_handles.proofs.places.searching.search_row.Given as goal

-- it passed so many places at least, and found none
abbrev pub invariant-loop-passed : goal.invariant-loop-passed
invariant-loop-passed l = GoesOn 0 l.fn.search l.search × (l.search.on.row ≡ l.fn.search.on.row)
    × (l.passed ≤ l.search.on.place)
