use Rattle.cn_tables.proofs.Common.{ℕ, ◌<◌, Table, LeadsOnAt}
use Rattle.cn_tables.proofs.fault.find_backward.Given as goal

abbrev pub invariant-loop-u : goal.invariant-loop-u
invariant-loop-u l = let t : Table = record { entries = l.fn.entries; width = l.fn.width; balancers = l.fn.balancers; ends = l.ends } in
    (k : ℕ) → k < l.u → LeadsOnAt t k
