use Rattle.cn_tables.proofs.Common.{IsWellFormed}
use Rattle.cn_tables.proofs.Flow.{full-flow-draft, full-flow-exists, full-flow-paths, full-flow-unique}
use Rattle.cn_tables.proofs.Conserve.{full-flow-few, full-flow-sum}
use Rattle.cn_tables.proofs.wiring.Wiring.full_flow_laws.Goals as goal

pub returns : goal.returns
returns c =
    let w : IsWellFormed c.args.self.now = rw c.self.view_is at c.self.invariant in
    record {
      exists = full-flow-exists c.args.self.now w;
      unique = full-flow-unique c.args.self.now w;
      draft = full-flow-draft c.args.self.now;
      sum = full-flow-sum c.args.self.now w;
      few = full-flow-few c.args.self.now w;
      paths = full-flow-paths c.args.self.now w;
    }
