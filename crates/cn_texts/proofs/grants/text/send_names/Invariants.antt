use Rattle.cn_texts.proofs.Common.{grant_lines, Puts}
use Rattle.cn_texts.proofs.grants.text.send_names.Given as goal

abbrev pub invariant-loop-name : goal.invariant-loop-name
invariant-loop-name g l = Puts g.W.Write.contents l.initial.writer l.writer l.initial.pieces l.pieces (grant_lines l.epoch l.name l.holders)
