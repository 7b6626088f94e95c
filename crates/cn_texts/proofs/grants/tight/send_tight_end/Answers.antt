use Rattle.cn_texts.proofs.Common.{tight_end}
use Rattle.cn_texts.proofs.WritingLemmas.Putting.{put-then}
use Rattle.cn_texts.proofs.grants.tight.send_tight_end.Goals as goal

pub returns : goal.returns
unfolding tight_end
returns g c = put-then c.send_number.ensures (put-then c.send_number-2.ensures c.put.ensures)
