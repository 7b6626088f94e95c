use Rattle.cn_floor.proofs.Common.{ℕ, ◌+◌, sym, arith, sum-below-fewer, sum-below-next, sum-below-none, entered_in, slots_items, words_in}
use Rattle.cn_floor.proofs.InStates.Ledgers.{entered-word}
use Rattle.cn_floor.proofs.floor.reading.clients_of.Goals as goal

pub loop-entry-init : goal.loop-entry-init
loop-entry-init c = sym (sum-below-none (entered_in c.args.network.now.table (words_in c.args.stride (slots_items c.args.table.now.words))))

pub overflow_add-clients : goal.overflow_add-clients
overflow_add-clients c =
    let t = c.args.network.now.table in
    let f : ℕ → ℕ = entered_in t (words_in c.args.stride (slots_items c.args.table.now.words)) in
    let low = c.loop-entry-test.true in
    omega (
      arith,
      c.loop-entry.invariant,
      c.requires.few,
      c.entries-entry-end.ensures.value,
      entered-word t (words_in c.args.stride (slots_items c.args.table.now.words)) c.loop-entry.entry
          (omega (arith, low, c.entries-entry-end.ensures.value)),
      sum-below-next f c.loop-entry.entry,
      sum-below-fewer f (c.loop-entry.entry + 1) t.entries (omega (arith, low, c.entries-entry-end.ensures.value)),
    )

pub loop-entry-preserved : goal.loop-entry-preserved
loop-entry-preserved c =
    let t = c.args.network.now.table in
    omega (
      arith,
      c.loop-entry.invariant,
      entered-word t (words_in c.args.stride (slots_items c.args.table.now.words)) c.loop-entry.entry
          (omega (arith, c.loop-entry-test.true, c.entries-entry-end.ensures.value)),
      sum-below-next (entered_in t (words_in c.args.stride (slots_items c.args.table.now.words))) c.loop-entry.entry,
    )
