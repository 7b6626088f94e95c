use Rattle.cn_report.proofs.Common.{report_text, put-all, put-then, text-held}
use Rattle.cn_report.proofs.rendering.render_report.Goals as goal

pub send_whole_records-requires : goal.send_whole_records-requires
send_whole_records-requires c = rw c.width.ensures.value c.requires

pub returns-in-Ok : goal.returns-in-Ok
returns-in-Ok c =
    let (text, is, grows) = c.in-Ok.ensures c.new-text.result (report_text c.args.network.now c.args.records.now)
    (put-all c.in_ok-pieces.ensures (put-then (put-then c.send_heading.ensures (rw c.width.ensures.value at c.send_whole_records.ensures))
    (rw c.count_clients-grants.ensures at c.send_report_end.ensures))) in
    text-held _ _ text _ c.new-text.ensures.items grows is
