use Rattle.cn_texts.proofs.Common.{◌∙◌, ap₂, arith, sym, report_end, report_text}
use Rattle.cn_texts.proofs.WritingLemmas.RecordLines.{as-many-records}
use Rattle.cn_texts.proofs.WritingLemmas.Putting.{put-all, put-same, put-then}
use Rattle.cn_texts.proofs.writing.report.write_report.Goals as goal

pub send_epochs-requires-clause-width : goal.send_epochs-requires-clause-width
send_epochs-requires-clause-width g c = omega (arith, c.width.ensures.value, c.width.ensures.network.formed.width.1)

pub returns : goal.returns
returns g c records are =
    let network = c.args.network.now in
    let (many, clients) = as-many-records c.args.carries network.table.width 0 c.args.epochs.now records c.args.holders.now are in
    let end = put-same (sym (ap₂ (λ n k. report_end n k) many (clients ∙ c.requires.as_many))) c.send_report_end.ensures in
    c.finish.ensures c.args.writer.now (report_text network records)
    (put-all c.requires.fresh (put-then (put-then c.send_heading.ensures ((rw c.width.ensures.value at c.send_epochs.ensures) records are))
    end))
