use Rattle.cn_handles.proofs.Common.{◌-◌, length, take, HaveNames, all_by}
use Rattle.cn_handles.proofs.Listed.{AreFirstNamed}
use Rattle.cn_handles.proofs.handles.held_lane.in_order.name_list.Given as goal

-- the clients so far are named, and their names are written
abbrev pub invariant-loop-named : goal.invariant-loop-named
invariant-loop-named l =
    AreFirstNamed l.initial.lane l.lane (all_by l.entry l.clients) l.named
    × HaveNames l.initial.lane.view l.lane.view (take l.named l.clients) (take l.named l.names)

abbrev pub decreases-loop-named : goal.decreases-loop-named
decreases-loop-named l = length l.clients - l.named
