use Rattle.cn_texts.proofs.Common.{name_lines, Puts}
use Rattle.cn_texts.proofs.writing.outcome.send_holders.Given as goal

abbrev pub invariant-loop-name : goal.invariant-loop-name
invariant-loop-name g l = Puts g.W.Write.contents l.initial.writer l.writer l.initial.pieces l.pieces (name_lines l.name l.holders)
