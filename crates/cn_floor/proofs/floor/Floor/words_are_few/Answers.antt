use Rattle.cn_floor.proofs.Common.{arith}
use Rattle.cn_floor.proofs.InStates.Bounds.{count-few, few-came}
use Rattle.cn_floor.proofs.floor.Floor.words_are_few.Goals as goal

pub returns-clause-counts : goal.returns-clause-counts
returns-clause-counts c s kept = count-few c.args.self.now.start s record { began = c.start_laws.ensures; rule = kept }

pub returns-clause-came : goal.returns-clause-came
returns-clause-came c s kept = few-came c.args.self.now.start s record { began = c.start_laws.ensures; rule = kept }

pub returns-clause-few : goal.returns-clause-few
returns-clause-few c s kept = omega (arith, c.start_laws.ensures.few, c.start_laws.ensures.quota)
