use Rattle.cn_texts.specs.Writing.Replay.{turn_line}
use Rattle.cn_texts.proofs.WritingLemmas.Putting.{put-then}
use Rattle.cn_texts.proofs.writing.replay.send_record.Goals as goal

pub returns : goal.returns
unfolding turn_line
returns g c = put-then c.send_line.ensures
    (put-then c.send_shown_counts.ensures (rw (c.deref.ensures.value, c.requires.showable.holders) at c.send_holders.ensures))
