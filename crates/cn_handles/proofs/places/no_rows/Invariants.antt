use Rattle.cn_handles.proofs.Common.{◌≡◌, length, AreSlotsOf}
use Rattle.cn_handles.proofs.places.no_rows.Given as goal

-- the rows so far are for lanes of the floor
abbrev pub invariant-loop-at : goal.invariant-loop-at
invariant-loop-at l = AreSlotsOf l.floor l.slots.items × (length l.slots.items ≡ l.at)
