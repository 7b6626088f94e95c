use Rattle.cn_report.proofs.Common.{put-then}
use Rattle.cn_report.proofs.rendering.send_whole_record.Goals as goal

pub returns : goal.returns
returns g c =
    put-then c.send_epoch_line.ensures (put-then (rw c.deref.ensures.value at c.send_exits.ensures)
    (rw (c.deref-2.ensures.value, c.requires.1) at c.send_holders.ensures))
