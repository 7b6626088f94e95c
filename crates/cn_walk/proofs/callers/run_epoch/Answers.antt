use Rattle.cn_walk.proofs.Common.{ap, words_before}
use Rattle.std.proofs.lemmas.Result.{IfOk-weaker}
use Rattle.cn_walk.proofs.Runs.{from-zero}
use Rattle.cn_walk.proofs.callers.run_epoch.Goals as goal

pub returns-clause-run : goal.returns-clause-run
returns-clause-run g c =
    IfOk-weaker c.walk_to_quiet.result _ _
    (λ q is. from-zero c.args.network.now c.args.clients.now q (rw (ap words_before c.in-Ok.ensures.start) at is))
    c.walk_to_quiet.ensures.run
