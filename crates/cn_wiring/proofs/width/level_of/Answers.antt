use Rattle.cn_wiring.proofs.Common.{◌^◌, ◌∙◌, sym, ap, arith}
use Rattle.cn_wiring.proofs.Rows.{level-is-log, width-some}
use Rattle.cn_wiring.proofs.width.level_of.Goals as goal
use Rattle.cn_wiring.proofs.width.level_of.Goals.{else-level-le-MOST_LEVEL-via-then-level-le-MOST_LEVEL+else-width-width_of, else-level-le-MOST_LEVEL-via-else-level-le-MOST_LEVEL}

pub returns-then-width-lt2 : goal.returns-then-width-lt2
returns-then-width-lt2 c is = let least = width-some c.args.width is in omega (arith, c.if-width-lt2.true)

pub returns-else-level-le-MOST_LEVEL : goal.returns-else-level-le-MOST_LEVEL
returns-else-level-le-MOST_LEVEL c (level, is) =
    let same = level-is-log c.args.width c.ilog2-level.result level c.ilog2-level.ensures.power_le c.ilog2-level.ensures.next_power_gt
    is.wide in
    elim c.else-level-le-MOST_LEVEL.branch [
      | else-level-le-MOST_LEVEL-via-then-level-le-MOST_LEVEL+else-width-width_of w ↦ w.if-width-width_of.false
          (is.wide ∙ ap (λ n. 2 ^ n) same ∙ sym w.width_of.ensures.value)
      | else-level-le-MOST_LEVEL-via-else-level-le-MOST_LEVEL w ↦ omega (arith, same, is.small, w.if-level-le-MOST_LEVEL.false)
    ]
