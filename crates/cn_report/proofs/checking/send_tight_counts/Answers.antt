use Rattle.cn_report.proofs.Common.{◌∷◌, ℕ, decimal, get_or, refl, put-last, put-next, put-none}
use Rattle.cn_report.proofs.checking.send_tight_counts.Goals as goal

pub loop-count-init : goal.loop-count-init
loop-count-init g c = put-none

pub loop-count-preserved : goal.loop-count-preserved
loop-count-preserved g c =
    put-next (λ (count : ℕ). 32 ∷ decimal count) c.args.counts.now c.loop-count.count-index 0
    (get_or c.args.counts.now c.loop-count.count-index 0) c.loop-count-test.true refl c.loop-count.invariant
    c.send_number.ensures

pub returns : goal.returns
returns g c = put-last (λ (count : ℕ). 32 ∷ decimal count) c.args.counts.now c.loop-count.count-index c.loop-count-test.false
    c.loop-count.invariant
