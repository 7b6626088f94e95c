use Rattle.std.proofs.Common.{◌≡◌, ◌++◌, length}
use Rattle.cn_spec.specs.Networks as net
use Rattle.cn_tree.proofs.counting_tree.interleave.Given as goal

abbrev pub invariant-loop-a : goal.invariant-loop-a
invariant-loop-a l =
    let even = l.a-iterator.a.rest.now in
    let odd = l.a-iterator.b.rest.now in
    record {
      same : length even ≡ length odd;
      whole : l.row.items ++ net.interleave even odd ≡ net.interleave l.even l.odd;
    }
