use Rattle.cn_texts.proofs.Common.{ap, sym, moved_line}
use Rattle.cn_texts.proofs.WritingLemmas.Putting.{put-same, put-then}
use Rattle.cn_texts.proofs.writing.events.send_moved.Goals as goal

pub returns-in-On : goal.returns-in-On
unfolding moved_line
returns-in-On g c = put-same (ap (moved_line c.args.client) (sym c.in-On.is)) (put-then c.send_number.ensures
    (put-then c.send_number-in-On.ensures (put-then c.send_number-in-On-2.ensures
    (put-then c.send_number-in-On-3.ensures c.put.ensures))))

pub returns-in-Out : goal.returns-in-Out
unfolding moved_line
returns-in-Out g c = put-same (ap (moved_line c.args.client) (sym c.in-Out.is)) (put-then c.send_number-in-Out.ensures
    (put-then c.send_number-in-Out-2.ensures (put-then c.send_number-in-Out-3.ensures
    (put-then c.send_number-in-Out-4.ensures c.put-in-Out.ensures))))
