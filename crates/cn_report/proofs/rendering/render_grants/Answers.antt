use Rattle.cn_report.proofs.Common.{grants_text, put-all, put-then, text-held}
use Rattle.cn_report.proofs.rendering.render_grants.Goals as goal

pub returns-in-Ok : goal.returns-in-Ok
returns-in-Ok c =
    let (text, is, grows) = c.in-Ok.ensures c.new-text.result (grants_text c.args.records.now)
    (put-all c.in_ok-pieces.ensures (put-then c.send_header.ensures c.send_names_of.ensures)) in
    text-held _ _ text _ c.new-text.ensures.items grows is
