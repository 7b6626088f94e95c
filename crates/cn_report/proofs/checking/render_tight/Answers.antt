use Rattle.cn_report.proofs.Common.{arith, map, plain_tight, tight_text, put-all, put-same, put-then, text-held, end-same}
use Rattle.cn_report.proofs.checking.render_tight.Goals as goal

pub returns-in-Ok : goal.returns-in-Ok
returns-in-Ok c =
    let epochs = c.args.tight.now.epochs.items in
    let end = put-same (end-same plain_tight epochs c.len.result c.count_tight_clients-grants.result
    (omega (arith, c.len.ensures, c.args.tight.now.epochs.ok.0)) (rw c.deref-2.ensures.value at c.count_tight_clients-grants.ensures))
    c.send_tight_end.ensures in
    let (text, is, grows) = c.in-Ok.ensures c.new-text.result (tight_text (map plain_tight epochs))
    (put-all c.in_ok-pieces.ensures (put-then (rw c.deref.ensures.value at c.send_tight_epochs.ensures) end)) in
    text-held _ _ text _ c.new-text.ensures.items grows is
