use Rattle.cn_report.proofs.Common.{bounds_of, records_of, entries_of}
use Rattle.cn_report.proofs.InOrder.{one-text-in-order}
use Rattle.cn_report.proofs.laws.a_run_in_order_has_one_text.Goals as goal

pub returns : goal.returns
returns c net form carry large bytes text other one another =
    one-text-in-order net form carry large bytes text other one another
    (c.batch_is_one.ensures (bounds_of large (entries_of net.kind net.width)) (records_of bytes) one.run.epochs another.run.epochs
    one.run.batch another.run.batch)
