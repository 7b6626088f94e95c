use Rattle.cn_texts.proofs.Common.{heading}
use Rattle.cn_texts.proofs.WritingLemmas.Putting.{put-then}
use Rattle.cn_texts.proofs.writing.line.send_heading.Goals as goal

pub returns : goal.returns
unfolding heading
returns g c =
    put-then c.put.ensures (put-then (rw (c.as_bytes.ensures.value, c.word.ensures, c.kind.ensures) at c.put-2.ensures)
    (put-then (rw c.width.ensures.value at c.send_number.ensures) (put-then (rw c.balancers.ensures.value at c.send_number-2.ensures)
    (put-then (rw c.depth.ensures.value at c.send_number-3.ensures) c.put-3.ensures))))
