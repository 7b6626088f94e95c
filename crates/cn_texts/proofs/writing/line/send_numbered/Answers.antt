use Rattle.cn_texts.proofs.WritingLemmas.Putting.{put-then}
use Rattle.cn_texts.proofs.writing.line.send_numbered.Goals as goal

pub returns : goal.returns
returns g c =
    put-then (rw c.as_bytes.ensures.value at c.put.ensures)
    (put-then (rw (c.as_bytes-2.ensures.value, c.format.ensures.text) at c.put-2.ensures)
    (rw c.as_bytes-3.ensures.value at c.put-3.ensures))
