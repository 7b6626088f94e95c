use Rattle.cn_floor.proofs.Common.{◌≡◌, length, take, slots_items, words_in}
use Rattle.cn_floor.proofs.floor.reading.copy_apart.Given as goal

-- the places so far have the words of the table
abbrev pub invariant-loop-word : goal.invariant-loop-word
invariant-loop-word l =
    (length l.words ≡ length (words_in l.stride (slots_items l.table.words)))
    × (take l.word l.words ≡ take l.word (words_in l.stride (slots_items l.table.words)))
