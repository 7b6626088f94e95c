use Rattle.cn_report.proofs.Common.{◌≡◌, map, range_with_len, share}
use Rattle.cn_report.proofs.checking.shares.Given as goal

abbrev pub invariant-loop-exit : goal.invariant-loop-exit
invariant-loop-exit l = record { counts : l.counts.items ≡ map (share l.fn.clients l.fn.width) (range_with_len 0 l.exit) }
