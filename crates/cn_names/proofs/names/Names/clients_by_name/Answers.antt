use Rattle.cn_names.proofs.Common.{◌≡◌, IfOk, map, rules, ListsByName}
use Rattle.std.proofs.lemmas.Result.{IfOk-weaker}
use Rattle.cn_names.proofs.Rising.{rising-from_sorted}
use Rattle.cn_names.proofs.names.Names.clients_by_name.Goals as goal

pub returns : goal.returns
returns c =
    let sorted = c.sort_unstable.new.self.items in
    let mapped : IfOk c.collect.result (λ v. v.items ≡ map (λ grant. grant.1) sorted) = search rules in
    IfOk-weaker c.collect.result (λ v. v.items ≡ map (λ grant. grant.1) sorted) (λ v. ListsByName c.args.self.now v.items)
    (λ v listed. record {
      grants = sorted;
      all = rw c.in_ok-grants.ensures at c.sort_unstable.ensures.permutation;
      rising = rising-from_sorted sorted c.sort_unstable.ensures.sorted;
      listed = listed;
    }) mapped
