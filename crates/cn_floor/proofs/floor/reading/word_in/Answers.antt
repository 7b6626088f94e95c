use Rattle.cn_floor.proofs.Common.{◌*◌, ◌<◌, ℕ, List, ap, arith, get_or, length, sym, ◌∙◌, slots_items, words_in, slots_counts, slots_len, slots_small}
use Rattle.cn_floor.proofs.AtClose.Closings.{at-get}
use Rattle.cn_floor.proofs.InStates.Spreads.{get-spread, length-spread, low-spread}
use Rattle.cn_floor.proofs.floor.reading.word_in.Goals as goal

module _ (c : goal.Start) where
  abbrev spaced : List ℕ
  spaced = slots_items c.args.table.now.words

  low : c.args.stride * c.args.word < slots_len c.args.table.now.words
  low =
      let words : List ℕ = words_in c.args.stride spaced in
      omega (
        arith,
        (slots_counts c.args.table.now.words).0,
        ap length c.requires.spaced.apart,
        length-spread c.args.stride c.requires.spaced.some words,
        low-spread c.args.stride c.requires.spaced.some c.requires.there,
      )

pub overflow_mul-stride : goal.overflow_mul-stride
overflow_mul-stride c = omega (arith, low c, slots_small c.args.table.now.words)

pub word-requires : goal.word-requires
word-requires c = (low c, c.requires.full)

pub returns : goal.returns
returns c =
    sym (at-get (slots_items c.args.table.now.words) (c.args.stride * c.args.word) c.word.result c.word.ensures).1
    ∙ ap (λ (ws : List ℕ). get_or ws (c.args.stride * c.args.word) 0) c.requires.spaced.apart
    ∙ get-spread c.args.stride c.requires.spaced.some (words_in c.args.stride (slots_items c.args.table.now.words)) c.args.word
