use Rattle.cn_floor.proofs.Common.{rules, arith, slots_items}
use Rattle.cn_floor.proofs.AtClose.Closings.{at-get}
use Rattle.cn_floor.proofs.Lists.{copied-all, copied-next}
use Rattle.cn_floor.proofs.floor.reading.copy_adjacent.Goals as goal

pub loop-word-init : goal.loop-word-init
loop-word-init c = search rules

pub loop-word-preserved : goal.loop-word-preserved
loop-word-preserved c =
    let got = at-get (slots_items c.args.table.now.words) c.loop-word.word c.word.result c.word.ensures in
    copied-next c.loop-word.words (slots_items c.args.table.now.words) c.loop-word.word c.word.result c.loop-word.invariant.0 got.0
    c.loop-word.invariant.1 got.1

pub returns : goal.returns
returns c =
    copied-all c.loop-word.words (slots_items c.args.table.now.words) c.loop-word.word c.loop-word.invariant.0
    (omega (arith, c.loop-word-test.false, c.requires.places)) c.loop-word.invariant.1
