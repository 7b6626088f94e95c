use Rattle.cn_report.proofs.Common.{◌∙◌, ap, arith, map, sym, get_or-map, length-map, plain_tight, tight_line, put-last, put-next, put-none}
use Rattle.cn_report.proofs.checking.send_tight_epochs.Goals as goal

pub loop-epoch-init : goal.loop-epoch-init
loop-epoch-init g c = put-none

pub loop-epoch-preserved : goal.loop-epoch-preserved
loop-epoch-preserved g c =
    let epochs = c.args.epochs.now in
    let i = c.loop-epoch.epoch-index in
    let e = c.epoch-item.result in
    let many = length-map epochs plain_tight in
    put-next tight_line (map plain_tight epochs) i (plain_tight e) (plain_tight e) (omega (arith, many, c.loop-epoch-test.true))
    (ap plain_tight c.epoch-item.is ∙ sym (get_or-map plain_tight epochs i e (plain_tight e) c.loop-epoch-test.true)) c.loop-epoch.invariant
    c.send_tight_epoch.ensures

pub returns : goal.returns
returns g c =
    let many = length-map c.args.epochs.now plain_tight in
    put-last tight_line (map plain_tight c.args.epochs.now) c.loop-epoch.epoch-index (omega (arith, many, c.loop-epoch-test.false))
    c.loop-epoch.invariant
