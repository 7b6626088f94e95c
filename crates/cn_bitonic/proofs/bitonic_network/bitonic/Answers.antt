use Rattle.cn_bitonic.proofs.Common.{◌≡◌, ◌∙◌, map, ap, rules, range_with_len, same-level, Drawn, drawn, drawn-built, drawn-counts, entries-row, flows-row, outputs-count, bitonic_plan, bitonic_balancers, bitonic_depth}
use Rattle.cn_spec.specs.Networks as net
use Rattle.cn_tables.specs.declared.kind.Kind.TheVariants.{Bitonic}
use Rattle.cn_bitonic.proofs.Halves.{Counted, Sequence}
use Rattle.cn_bitonic.proofs.Whole.{place_for-all, room_for-all}
use Rattle.cn_bitonic.proofs.bitonic_network.bitonic.Goals as goal
use Rattle.cn_bitonic.proofs.bitonic_network.bitonic.Goals.{In_ok-exits}

pub reserve-requires : goal.reserve-requires
reserve-requires c = room_for-all c.in_ok-draft.draft c.args.width c.in-Some.level c.in-Some.ensures
    (ap (λ p. p.balancers) c.in_ok-draft.ensures.plan)

pub bitonic_over-requires-clause-row : goal.bitonic_over-requires-clause-row
bitonic_over-requires-clause-row c =
    let row = entries-row c.args.width c.in-Some.level c.in-Some.ensures in
    let room = place_for-all c.in_ok-draft.draft c.args.width c.in-Some.level c.in-Some.ensures
    (ap (λ p. p.balancers) c.in_ok-draft.ensures.plan) in
    rw (c.deref.ensures.value, c.in_ok-entries.ensures, c.reserve.ensures) (c.in-Some.level, row, room)

-- the draft of the whole network
drawing : (c : In_ok-exits) → Drawn c.bitonic_over.new.draft c.in_ok-exits.exits.items c.args.width (bitonic_balancers c.in-Some.level)
    (bitonic_depth c.in-Some.level) c.in-Some.level (λ f. net.bitonic c.in-Some.level (map f (range_with_len 0 c.args.width)))
drawing c =
    let new = c.in_ok-draft.ensures in
    let gives : Counted c.in_ok-draft.draft c.bitonic_over.new.draft (range_with_len 0 c.args.width) c.in_ok-exits.exits.items =
    rw (c.deref.ensures.value, c.in_ok-entries.ensures, c.reserve.ensures) at c.in_ok-exits.ensures.built in
    let made = gives c.in-Some.level (entries-row c.args.width c.in-Some.level c.in-Some.ensures) in
    drawn c.args.width c.in-Some.level (λ f. net.bitonic c.in-Some.level (map f (range_with_len 0 c.args.width))) new.plan new.loose
    new.level made.built made.row made.flow

pub finish_counting-requires : goal.finish_counting-requires
finish_counting-requires c =
    let draft = drawing (goal.at.finish_counting-requires c).In_ok-exits in
    rw c.deref-2.ensures.value (record {
      count = outputs-count c.in-Some.level c.in_ok-exits.exits.items c.in-Some.ensures.small draft.exits;
      each = draft.each;
      counts = drawn-counts draft (λ f. c.bitonic_counts.ensures.is_step c.in-Some.level (map f (range_with_len 0 c.args.width))
          (flows-row f c.args.width c.in-Some.level c.in-Some.ensures));
      deep = draft.deep;
    })

pub returns-clause-built : goal.returns-clause-built
returns-clause-built c level e =
    let same : level ≡ c.in-Some.level = same-level c.args.width c.in-Some.level level c.in-Some.ensures.wide e in
    let done = c.in_ok-finish_counting.ensures in
    rw same (drawn-built c.in_ok-finish_counting.field-0 Bitonic c.args.width c.in-Some.ensures.wide
    (drawing (goal.at.returns-clause-built c).In_ok-exits) (rw c.deref-2.ensures.value at done.table) done.named done.counts)

pub returns-clause-order : goal.returns-clause-order
returns-clause-order c level e =
    let same : level ≡ c.in-Some.level = same-level c.args.width c.in-Some.level level c.in-Some.ensures.wide e in
    let orders : Sequence c.in_ok-draft.draft c.bitonic_over.new.draft (range_with_len 0 c.args.width) c.in_ok-exits.exits.items =
    rw (c.deref.ensures.value, c.in_ok-entries.ensures, c.reserve.ensures) at c.in_ok-exits.ensures.order in
    let order = orders c.in-Some.level (entries-row c.args.width c.in-Some.level c.in-Some.ensures) in
    let made : bitonic_plan c.in-Some.level ≡ (c.bitonic_over.new.draft, c.in_ok-exits.exits.items) =
    rw (c.in_ok-draft.ensures.plan, c.in-Some.ensures.wide) at order in
    rw (same, made, ← c.deref-2.ensures.value) c.in_ok-finish_counting.ensures.table

pub returns-clause-exits : goal.returns-clause-exits
returns-clause-exits c level e f full =
    let same : level ≡ c.in-Some.level = same-level c.args.width c.in-Some.level level c.in-Some.ensures.wide e in
    let done = c.in_ok-finish_counting.ensures in
    let row = (drawing (goal.at.returns-clause-exits c).In_ok-exits).flow f (done.draft f full) in
    rw same (done.exits f ∙ rw c.deref-2.ensures.value row)
