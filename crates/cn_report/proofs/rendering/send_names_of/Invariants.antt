use Rattle.cn_report.proofs.Common.{take, flat_map, Puts}
use Rattle.cn_report.proofs.SameLines.{grants-of}
use Rattle.cn_report.proofs.rendering.send_names_of.Given as goal

abbrev pub invariant-loop-epoch : goal.invariant-loop-epoch
invariant-loop-epoch g l = Puts g.W.Write.contents l.initial.writer l.writer l.initial.pieces l.pieces
    (flat_map grants-of (take l.epoch-index l.records))
