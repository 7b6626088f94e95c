use Rattle.cn_report.proofs.Common.{All-get_or, epoch_lines, put-last, put-next, put-none, IsWholeRecord}
use Rattle.cn_report.proofs.rendering.send_whole_records.Goals as goal

pub send_whole_record-requires : goal.send_whole_record-requires
send_whole_record-requires g c =
    rw c.epoch-item.is (All-get_or (IsWholeRecord c.args.width) c.args.records.now c.loop-epoch.epoch-index c.epoch-item.result
    c.loop-epoch-test.true c.requires)

pub loop-epoch-init : goal.loop-epoch-init
loop-epoch-init g c = put-none

pub loop-epoch-preserved : goal.loop-epoch-preserved
loop-epoch-preserved g c =
    put-next (epoch_lines c.args.width) c.args.records.now c.loop-epoch.epoch-index c.epoch-item.result c.epoch-item.result
    c.loop-epoch-test.true c.epoch-item.is c.loop-epoch.invariant c.send_whole_record.ensures

pub returns : goal.returns
returns g c = put-last (epoch_lines c.args.width) c.args.records.now c.loop-epoch.epoch-index c.loop-epoch-test.false c.loop-epoch.invariant
