use Rattle.cn_report.proofs.Common.{take, flat_map, Puts, epoch_lines}
use Rattle.cn_report.proofs.rendering.send_whole_records.Given as goal

abbrev pub invariant-loop-epoch : goal.invariant-loop-epoch
invariant-loop-epoch g l = Puts g.W.Write.contents l.initial.writer l.writer l.initial.pieces l.pieces
    (flat_map (epoch_lines l.width) (take l.epoch-index l.records))
