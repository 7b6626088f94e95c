use Rattle.cn_report.proofs.Common.{subst, sym, All-get_or, put-last, put-next, put-none, HasHolders}
use Rattle.cn_report.proofs.SameLines.{grants-of}
use Rattle.cn_report.proofs.rendering.send_names_of.Goals as goal

pub loop-epoch-init : goal.loop-epoch-init
loop-epoch-init g c = put-none

pub loop-epoch-preserved : goal.loop-epoch-preserved
loop-epoch-preserved g c =
    let holders = subst HasHolders (sym c.epoch-item.is)
    (All-get_or HasHolders c.args.records.now c.loop-epoch.epoch-index c.epoch-item.result c.loop-epoch-test.true c.requires) in
    put-next grants-of c.args.records.now c.loop-epoch.epoch-index c.epoch-item.result c.epoch-item.result c.loop-epoch-test.true
    c.epoch-item.is c.loop-epoch.invariant
    (rw (c.deref.ensures.value, holders) at c.send_names.ensures)

pub returns : goal.returns
returns g c = put-last grants-of c.args.records.now c.loop-epoch.epoch-index c.loop-epoch-test.false c.loop-epoch.invariant
