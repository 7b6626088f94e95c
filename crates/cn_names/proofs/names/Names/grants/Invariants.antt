use Rattle.cn_names.proofs.Common.{◌≡◌, ◌+◌, ◌≤◌, ◌++◌, length, vec_len, grants_in}
use Rattle.std.specs.Vec.{vec_capacity}
use Rattle.cn_names.proofs.names.Names.grants.Given as goal

-- the grants so far, and those in what is left, are all
abbrev pub invariant-loop-client : goal.invariant-loop-client
invariant-loop-client l = record {
  can_next : (goal.iterator-loop-client).can_next l.client-iterator;
  is_finite : (goal.iterator-loop-client).is_finite l.client-iterator;
  room : vec_len l.grants + length l.client-iterator ≤ vec_capacity l.grants;
  so_far : l.grants.items ++ grants_in l.client-iterator ≡ grants_in l.self;
}
