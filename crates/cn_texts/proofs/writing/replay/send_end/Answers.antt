use Rattle.cn_texts.proofs.Common.{end_line}
use Rattle.cn_texts.proofs.WritingLemmas.Putting.{put-then}
use Rattle.cn_texts.proofs.writing.replay.send_end.Goals as goal

pub returns : goal.returns
unfolding end_line
returns g c = put-then c.send_number.ensures (put-then c.send_number-2.ensures (put-then c.send_number-3.ensures c.put.ensures))
