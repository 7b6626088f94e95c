use Rattle.cn_texts.proofs.Common.{take, enumerate_from, flat_map, Puts, wire_line}
use Rattle.cn_texts.proofs.writing.wiring.send_wires.Given as goal

abbrev pub invariant-loop-wire : goal.invariant-loop-wire
invariant-loop-wire g l =
    Puts g.W.Write.contents l.initial.writer l.writer l.initial.pieces l.pieces
    (flat_map wire_line (take l.wire (enumerate_from 0 l.network.table.ends)))
