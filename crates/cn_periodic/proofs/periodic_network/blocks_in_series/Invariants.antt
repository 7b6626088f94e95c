use Rattle.cn_periodic.proofs.Series.{Series}
use Rattle.cn_periodic.proofs.periodic_network.blocks_in_series.Given as goal

abbrev pub invariant-loop-done : goal.invariant-loop-done
invariant-loop-done l = Series l.fn.draft l.draft l.wires l.outputs.items l.level l._done
