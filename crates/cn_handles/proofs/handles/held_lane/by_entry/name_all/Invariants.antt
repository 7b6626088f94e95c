use Rattle.cn_handles.proofs.Common.{◌≡◌, ◌-◌, length}
use Rattle.cn_handles.proofs.Listed.{AreFirstNamed}
use Rattle.cn_handles.proofs.handles.held_lane.by_entry.name_all.Given as goal

-- the clients so far are named
abbrev pub invariant-loop-named : goal.invariant-loop-named
invariant-loop-named l = AreFirstNamed l.initial.lane l.lane l.clients l.named × (length l.ids ≡ 64)

abbrev pub decreases-loop-named : goal.decreases-loop-named
decreases-loop-named l = length l.clients - l.named
