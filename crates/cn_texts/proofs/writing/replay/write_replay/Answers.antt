use Rattle.cn_texts.proofs.Common.{arith, replay_text}
use Rattle.cn_texts.proofs.WritingLemmas.Putting.{put-all, put-then}
use Rattle.cn_texts.proofs.writing.replay.write_replay.Goals as goal

pub send_answers-requires-clause-width : goal.send_answers-requires-clause-width
send_answers-requires-clause-width g c = omega (arith, c.width.ensures.value, c.width.ensures.network.formed.width.1)

pub send_answers-requires-clause-showable : goal.send_answers-requires-clause-showable
send_answers-requires-clause-showable g c = rw c.width.ensures.value c.requires.showable

pub returns : goal.returns
returns g c =
    let last = c.args.last in
    c.finish.ensures c.args.writer.now
    (replay_text c.args.network.now c.args.commands.now c.args.answers.now last.number last.entered last.inside)
    (put-all c.requires.fresh
    (put-then (put-then c.send_heading.ensures (rw c.width.ensures.value at c.send_answers.ensures)) c.send_end.ensures))
