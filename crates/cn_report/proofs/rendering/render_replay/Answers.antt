use Rattle.cn_report.proofs.Common.{arith, get_or}
use Rattle.cn_report.proofs.SameLines.{whole-showable}
use Rattle.cn_report.proofs.rendering.render_replay.Goals as goal

pub write_replay-requires-clause-showable : goal.write_replay-requires-clause-showable
write_replay-requires-clause-showable c = λ place default within.
    whole-showable c.args.network.now.table.width (get_or c.args.answers.now place default)
    (omega (arith, c.width.ensures.network.formed.width.0)) (c.requires.whole place default within)
