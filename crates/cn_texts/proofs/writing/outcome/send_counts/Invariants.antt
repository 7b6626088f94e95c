use Rattle.cn_texts.proofs.Common.{shares_after, Puts, exit_lines}
use Rattle.cn_texts.proofs.writing.outcome.send_counts.Given as goal

abbrev pub invariant-loop-exit : goal.invariant-loop-exit
invariant-loop-exit g l = Puts g.W.Write.contents l.initial.writer l.writer l.initial.pieces l.pieces
    (exit_lines l.exit (shares_after l.before l.clients l.width))
