use Rattle.cn_texts.proofs.WritingLemmas.Putting.{put-then}
use Rattle.cn_texts.proofs.writing.line.send_number.Goals as goal

pub returns : goal.returns
returns g c = put-then (rw c.as_bytes.ensures.value at c.put.ensures)
    (rw (c.as_bytes-2.ensures.value, c.format.ensures.text) at c.put-2.ensures)
