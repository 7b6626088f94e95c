use Rattle.cn_texts.proofs.Common.{exit_lines, Puts}
use Rattle.cn_texts.proofs.writing.outcome.send_exits.Given as goal

abbrev pub invariant-loop-exit : goal.invariant-loop-exit
invariant-loop-exit g l = Puts g.W.Write.contents l.initial.writer l.writer l.initial.pieces l.pieces (exit_lines l.exit l.counts)
