use Rattle.cn_handles.proofs.Common.{◌≡◌, ℕ, Some, IsWithin}
use Rattle.cn_handles.specs.Returns.{JoinsTimes}
use Rattle.cn_handles.proofs.handles.held_lane.HeldLane.join_all.Given as goal

-- the lane took in as many as the search found
abbrev pub invariant-loop-joined : goal.invariant-loop-joined
invariant-loop-joined l = (n : ℕ) × JoinsTimes n (Some l.fn.self) (Some l.lane) × (n ≡ l.search.found)
    × (l.search.found ≡ l.joined) × (l.search.state ≡ 1) × IsWithin l.search
