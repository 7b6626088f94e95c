use Rattle.cn_texts.proofs.Common.{arith, length, slice_index, name_line}
use Rattle.cn_texts.proofs.WritingLemmas.Putting.{put-line, put-lines, put-none}
use Rattle.cn_texts.proofs.writing.outcome.send_holders.Goals as goal

pub loop-name-init : goal.loop-name-init
loop-name-init g c = put-none

pub loop-name-preserved : goal.loop-name-preserved
loop-name-preserved g c = put-line (λ name. name_line name (slice_index c.args.holders.now name)) c.loop-name.name c.loop-name.invariant
    c.send_holder.ensures

pub returns : goal.returns
returns g c = put-lines (λ name. name_line name (slice_index c.args.holders.now name)) c.loop-name.name (length c.args.holders.now)
    (omega arith) c.loop-name.invariant
