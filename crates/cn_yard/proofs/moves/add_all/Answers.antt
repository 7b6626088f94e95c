use Rattle.cn_yard.proofs.Common.{◌≡◌, ◌∙◌, length, arith, rules, vec_len, nat_tests, put_last}
use Rattle.cn_yard.proofs.AllLines.{more-add, same-put}
use Rattle.cn_yard.proofs.moves.add_all.Goals as goal

pub add-requires-clause-room : goal.add-requires-clause-room
add-requires-clause-room c =
    let inv = c.loop.invariant in
    let now : vec_len c.loop.records ≡ length c.loop.records.items = search rules in
    let old : vec_len c.args.records.now ≡ length c.args.records.now.items = search rules in
    omega (arith, inv.kept.len, inv.count, inv.capacity, c.requires.room, c.loop-test.true, c.loop.auto.counter)

pub add-requires-clause-few : goal.add-requires-clause-few
add-requires-clause-few c =
    let len = c.loop.invariant.kept.len in
    omega (arith, c.loop.invariant.count, c.requires.few, c.loop-test.true, c.loop.auto.counter)

pub add-requires-clause-lined : goal.add-requires-clause-lined
add-requires-clause-lined c =
    let (order, lined) = c.requires.lined in
    let (order', lined', same) = c.loop.invariant.lined order lined in
    (order', lined')

pub loop-preserved : goal.loop-preserved
loop-preserved c =
    let inv = c.loop.invariant in
    let one = c.add.ensures.kept.count c.args.wire in
    let from = c.loop.auto.counter in
    let count = inv.count in
    record {
      lined = λ order lined.
          let (order', lined', same) = inv.lined order lined in (
            put_last order' (length c.loop.records.items) c.args.wire,
            c.add.ensures.lined order' lined',
            same-put c.args.wire (length c.loop.records.items) order order' same,
          );
      kept = more-add inv.kept c.add.ensures.kept;
      count = grind (arith, nat_tests);
      words = c.add.ensures.words ∙ inv.words;
      capacity = c.add.ensures.capacity ∙ inv.capacity;
    }
