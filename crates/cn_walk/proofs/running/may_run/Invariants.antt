use Rattle.cn_walk.proofs.Common.{◌<◌, All, take}
use Rattle.cn_walk.proofs.running.may_run.Given as goal

abbrev pub invariant-loop-position : goal.invariant-loop-position
invariant-loop-position l = All (λ c. c.entry < l.entries) (take l.position l.clients)
