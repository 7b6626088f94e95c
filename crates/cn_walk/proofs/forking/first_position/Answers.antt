use Rattle.cn_walk.proofs.Common.{arith, div-le_of_le-mul, mul-le-mul, mul-le-mul_right}
use Prim.Native.Nat.{◌≤◌}
use Rattle.cn_walk.proofs.forking.first_position.Goals as goal

pub overflow_mul-result : goal.overflow_mul-result
overflow_mul-result c =
    let worker : c.args.worker ≤ 4294967295 = omega (arith, c.ranges.worker.fits) in
    let clients : c.args.clients ≤ 4294967295 = omega (arith, c.ranges.clients.fits) in
    let few = mul-le-mul worker clients in
    record { fits = rw (c.from.ensures, c.from-2.ensures) (omega arith) }

pub returns-clause-value : goal.returns-clause-value
returns-clause-value c = rw (c.from.ensures, c.from-2.ensures, c.from-3.ensures)

pub returns-clause-within : goal.returns-clause-within
returns-clause-within c =
    rw (returns-clause-value c) (div-le_of_le-mul c.args.workers (mul-le-mul_right c.args.clients c.requires.1))
