use Rattle.cn_texts.proofs.Common.{take, flat_map, zip, Puts, answer_line}
use Rattle.cn_texts.proofs.writing.replay.send_answers.Given as goal

abbrev pub invariant-loop-position : goal.invariant-loop-position
invariant-loop-position g l =
    Puts g.W.Write.contents l.initial.writer l.writer l.initial.pieces l.pieces
    (flat_map (λ (command, answer). answer_line l.width command answer) (take l.position (zip l.commands l.answers)))
