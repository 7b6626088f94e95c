use Rattle.cn_texts.proofs.Common.{◌∙◌, sym}
use Rattle.cn_texts.proofs.WritingLemmas.Putting.{put-failed, put-then}
use Rattle.cn_texts.proofs.writing.report.send_epoch.Goals as goal

pub returns-then-has_failed-clause-puts : goal.returns-then-has_failed-clause-puts
returns-then-has_failed-clause-puts g c = put-failed (sym c.has_failed.ensures ∙ c.if-has_failed.true)

pub returns-clause-puts : goal.returns-clause-puts
returns-clause-puts g c = put-then c.send_epoch_line.ensures (put-then c.send_counts.ensures c.send_holders.ensures)
