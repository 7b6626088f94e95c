use Rattle.cn_report.proofs.Common.{take, Puts, tight_counts}
use Rattle.cn_report.proofs.checking.send_tight_counts.Given as goal

abbrev pub invariant-loop-count : goal.invariant-loop-count
invariant-loop-count g l = Puts g.W.Write.contents l.initial.writer l.writer l.initial.pieces l.pieces
    (tight_counts (take l.count-index l.counts))
