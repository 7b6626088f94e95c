use Rattle.cn_texts.proofs.Common.{arith, length, slice_index, grant_line}
use Rattle.cn_texts.proofs.WritingLemmas.Putting.{put-line, put-lines, put-none}
use Rattle.cn_texts.proofs.grants.text.send_names.Goals as goal

pub loop-name-init : goal.loop-name-init
loop-name-init g c = put-none

pub loop-name-preserved : goal.loop-name-preserved
loop-name-preserved g c = put-line (λ name. grant_line c.args.epoch (slice_index c.args.holders.now name) name) c.loop-name.name
    c.loop-name.invariant c.send_grant.ensures

pub returns : goal.returns
returns g c = put-lines (λ name. grant_line c.args.epoch (slice_index c.args.holders.now name) name) c.loop-name.name
    (length c.args.holders.now) (omega arith) c.loop-name.invariant
