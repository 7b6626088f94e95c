use Rattle.cn_yard.proofs.Common.{◌≡◌, ◌+◌, ◌-◌, length, vec_capacity, count_of, Fills, IsMore}
use Rattle.cn_yard.proofs.moves.add_all.Given as goal

abbrev pub invariant-loop : goal.invariant-loop
invariant-loop l = record {
  lined : Fills l.fn.records.items l.fn.lines l.fn.marks l.records.items l.lines l.marks l.wire;
  kept : IsMore l.fn.records.items l.fn.lines l.records.items l.lines l.wire;
  count : count_of l.lines l.wire ≡ count_of l.fn.lines l.wire + (l.counter - l.from);
  words : length l.marks ≡ length l.fn.marks;
  capacity : vec_capacity l.records ≡ vec_capacity l.fn.records;
}
