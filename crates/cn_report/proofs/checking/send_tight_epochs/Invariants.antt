use Rattle.cn_report.proofs.Common.{map, take, flat_map, Puts, plain_tight, tight_line}
use Rattle.cn_report.proofs.checking.send_tight_epochs.Given as goal

abbrev pub invariant-loop-epoch : goal.invariant-loop-epoch
invariant-loop-epoch g l =
    Puts g.W.Write.contents l.initial.writer l.writer l.initial.pieces l.pieces
    (flat_map tight_line (take l.epoch-index (map plain_tight l.epochs)))
