use Rattle.cn_handles.proofs.Common.{◌≡◌}
use Rattle.cn_handles.proofs.places.reading_rows.read_row.Given as goal

-- so often it was looked
abbrev pub invariant-loop-looks : goal.invariant-loop-looks
invariant-loop-looks l = (l.seen.at ≡ l.at) × (l.seen.looks ≡ l.looks)
