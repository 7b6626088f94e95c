use Rattle.cn_report.proofs.Common.{put-same, put-then, line-whole}
use Rattle.cn_report.proofs.checking.send_tight_epoch.Goals as goal

pub returns : goal.returns
returns g c =
    let e = c.args.epoch.now in
    put-same (line-whole e.number e.clients e.counts.items)
    (put-then c.send_tight_head.ensures (put-then (rw c.deref.ensures.value at c.send_tight_counts.ensures) c.put.ensures))
