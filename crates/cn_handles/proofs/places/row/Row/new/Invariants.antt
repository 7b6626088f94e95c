use Rattle.cn_handles.proofs.Common.{◌≡◌, length, AreTagsOf}
use Rattle.cn_handles.proofs.places.row.Row.new.Given as goal

-- the places so far are for lanes of the floor
abbrev pub invariant-loop-place : goal.invariant-loop-place
invariant-loop-place l = AreTagsOf l.floor l.places.items × (length l.places.items ≡ l.place)
