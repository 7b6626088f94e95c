use Rattle.cn_wiring.proofs.Common.{IsOrderly, flow-exists, flow-unique, paths}
use Rattle.cn_wiring.proofs.draft.Draft.flow_laws.Goals as goal

pub returns : goal.returns
returns c =
    let o : IsOrderly c.args.self.now = rw c.self.view_is at c.self.invariant in
    record {
      exists = flow-exists c.args.self.now o;
      unique = λ f g p q h. rw o.wires (flow-unique c.args.self.now o f g p q h);
      paths = paths c.args.self.now o;
    }
