use Rattle.cn_names.proofs.Common.{append_assoc, rules}
use Rattle.cn_names.proofs.names.Names.grants.Goals as goal

pub loop-client-preserved-in-Holds : goal.loop-client-preserved-in-Holds
loop-client-preserved-in-Holds c =
    let before = rw (c.in-Some.ensures.steps, c.in-Holds.is) at c.loop-client.invariant.so_far in
    record {
      can_next = tt;
      is_finite = tt;
      room = search rules;
      so_far = rw c.push_reserved.ensures.items (simp append_assoc before);
    }
