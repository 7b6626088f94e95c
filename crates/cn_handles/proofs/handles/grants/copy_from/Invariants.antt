use Rattle.cn_handles.proofs.Common.{◌≡◌, ℕ, ◌+◌, ◌<◌, length, get_or, copy_of}
use Rattle.cn_floor.specs.declared.view.Grant as floor
use Rattle.cn_handles.specs.declared.handles.grants.Grant.{Grant}
use Rattle.cn_handles.proofs.handles.grants.copy_from.Given as goal

-- the grants so far are copied
abbrev pub invariant-loop-i : goal.invariant-loop-i
invariant-loop-i l =
    (length l.copies ≡ length l.fn.copies)
    × ((k : ℕ) (d : Grant) (e : floor.Grant) → k < l.i → get_or l.copies k d ≡ copy_of (get_or l.grants (l.first + k) e))
