use Rattle.cn_texts.proofs.Common.{report_end}
use Rattle.cn_texts.proofs.WritingLemmas.Putting.{put-then}
use Rattle.cn_texts.proofs.writing.report.send_report_end.Goals as goal

pub returns : goal.returns
unfolding report_end
returns g c = put-then c.send_number.ensures (put-then c.send_number-2.ensures c.put.ensures)
