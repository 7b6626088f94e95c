use Rattle.cn_tables.proofs.Common.{subst, IsWellFormed}
use Rattle.cn_tables.specs.Network.{Network}
use Rattle.cn_tables.proofs.Flow.{full-flow-draft, full-flow-exists, full-flow-paths, full-flow-unique}
use Rattle.cn_tables.proofs.Conserve.{full-flow-few, full-flow-sum}
use Rattle.cn_tables.proofs.counting.Counting.full_flow_laws.Goals as goal

pub returns : goal.returns
returns c =
    let w = subst (λ (n : Network). IsWellFormed n.table) c.self.view_is c.self.invariant.formed in
    record {
      exists = full-flow-exists c.args.self.now.table w;
      unique = full-flow-unique c.args.self.now.table w;
      draft = full-flow-draft c.args.self.now.table;
      sum = full-flow-sum c.args.self.now.table w;
      few = full-flow-few c.args.self.now.table w;
      paths = full-flow-paths c.args.self.now.table w;
    }
