use Rattle.cn_texts.proofs.Common.{arith, slice_index, shares_after, exit_line}
use Rattle.cn_texts.proofs.WritingLemmas.Putting.{put-line, put-lines, put-none}
use Rattle.cn_texts.proofs.writing.outcome.send_counts.Goals as goal

pub loop-exit-init : goal.loop-exit-init
loop-exit-init g c = put-none

pub loop-exit-preserved : goal.loop-exit-preserved
loop-exit-preserved g c =
    put-line (λ exit. exit_line exit (slice_index (shares_after c.args.before c.args.clients c.args.width) exit)) c.loop-exit.exit
    c.loop-exit.invariant
    (rw c.count_after-count.ensures at c.send_count.ensures)

pub returns : goal.returns
returns g c = put-lines (λ exit. exit_line exit (slice_index (shares_after c.args.before c.args.clients c.args.width) exit))
    c.loop-exit.exit c.args.width (omega arith) c.loop-exit.invariant
