use Rattle.cn_yard.proofs.Common.{ℕ, Vec, Global, Inside, Line, Record}
use Rattle.cn_yard.proofs.Wires.{bare-empty, bare-tokens, closed-bare}
use Rattle.cn_yard.proofs.yard.Yard.new.Goals as goal

abbrev made : (wires : ℕ) → Vec Record Global → Vec Line Global → Vec ℕ Global → Inside
made wires records lines marks = record { wires = wires; records = records; lines = lines; marks = marks }

pub invariant_of-result : goal.invariant_of-result
invariant_of-result c =
    closed-bare
    (record { records = c.new.ensures.items; lines = c.new-2.ensures.items; marks = c.new-3.ensures.items })

pub returns-clause-yard : goal.returns-clause-yard
returns-clause-yard c =
    bare-empty (made c.args.wires c.new.result c.new-2.result c.new-3.result)
    (record { records = c.new.ensures.items; lines = c.new-2.ensures.items; marks = c.new-3.ensures.items })

pub returns-clause-nobody : goal.returns-clause-nobody
returns-clause-nobody c =
    bare-tokens (made c.args.wires c.new.result c.new-2.result c.new-3.result)
    (record { records = c.new.ensures.items; lines = c.new-2.ensures.items; marks = c.new-3.ensures.items })
