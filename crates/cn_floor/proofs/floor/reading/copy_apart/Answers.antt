use Rattle.cn_floor.proofs.Common.{arith, rules, sym, slots_items, words_in}
use Rattle.cn_floor.proofs.Lists.{copied-all, copied-next}
use Rattle.cn_floor.proofs.floor.reading.copy_apart.Goals as goal

pub loop-word-init : goal.loop-word-init
loop-word-init c = search rules

pub loop-word-preserved : goal.loop-word-preserved
loop-word-preserved c =
    copied-next c.loop-word.words (words_in c.args.stride (slots_items c.args.table.now.words)) c.loop-word.word c.word_in.result
    c.loop-word.invariant.0 (omega (arith, c.loop-word-test.true, c.requires.places)) c.loop-word.invariant.1 (sym c.word_in.ensures)

pub returns : goal.returns
returns c =
    copied-all c.loop-word.words (words_in c.args.stride (slots_items c.args.table.now.words)) c.loop-word.word c.loop-word.invariant.0
    (omega (arith, c.loop-word-test.false, c.requires.places)) c.loop-word.invariant.1
