use Rattle.cn_floor.proofs.Common.{◌≡◌, ◌++◌, take, vec_capacity}
use Rattle.cn_floor.proofs.floor.sharing.append.Given as goal

abbrev pub invariant-loop-grant : goal.invariant-loop-grant
invariant-loop-grant l = (l.to.items ≡ l.initial.to.items ++ take l.grant-index l.from) × (vec_capacity l.to ≡ vec_capacity l.initial.to)
