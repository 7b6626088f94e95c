use Rattle.cn_floor.proofs.Common.{◌≡◌, entered_in, slots_items, sum_below, words_in}
use Rattle.cn_floor.proofs.floor.reading.clients_of.Given as goal

abbrev pub invariant-loop-entry : goal.invariant-loop-entry
invariant-loop-entry l = l.clients ≡ sum_below l.entry (entered_in l.network.table (words_in l.stride (slots_items l.table.words)))
