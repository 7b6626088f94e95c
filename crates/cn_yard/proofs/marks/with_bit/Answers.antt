use Rattle.cn_yard.proofs.Common.{arith, w64, nat_tests, bit_at_clear_other, bit_at_clear_same, bit_at_set_other, bit_at_set_same}
use Rattle.cn_yard.proofs.marks.with_bit.Goals as goal

pub returns-then-on : goal.returns-then-on
returns-then-on c i h =
    let same = bit_at_set_same w64 c.args.word c.args.place c.requires in
    grind (arith, nat_tests, c.if-on.true, bit_at_set_other w64 c.args.word c.args.place c.requires i)

pub returns-else-on : goal.returns-else-on
returns-else-on c i h =
    let same = bit_at_clear_same w64 c.args.word c.args.place c.requires in
    grind (arith, nat_tests, c.if-on.false, bit_at_clear_other w64 c.args.word c.args.place c.requires i h)
