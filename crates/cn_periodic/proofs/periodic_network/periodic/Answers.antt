use Rattle.cn_periodic.proofs.Common.{◌≡◌, ◌∙◌, map, ap, rules, range_with_len, same-level, Drawn, drawn, drawn-built, drawn-counts, entries-row, flows-row, outputs-count, periodic_plan, BuildsPeriodic, periodic_balancers, periodic_depth}
use Rattle.cn_spec.specs.Networks as net
use Rattle.cn_tables.specs.declared.kind.Kind.TheVariants.{Periodic}
use Rattle.cn_periodic.proofs.Whole.{place_for-all, room_for-all}
use Rattle.cn_periodic.proofs.periodic_network.periodic.Goals as goal
use Rattle.cn_periodic.proofs.periodic_network.periodic.Goals.{In_ok-exits}

pub reserve-requires : goal.reserve-requires
reserve-requires c = room_for-all c.in_ok-draft.draft c.args.width c.in-Some.level c.in-Some.ensures
    (ap (λ p. p.balancers) c.in_ok-draft.ensures.plan)

pub blocks_in_series-requires-clause-row : goal.blocks_in_series-requires-clause-row
blocks_in_series-requires-clause-row c =
    rw (c.deref.ensures.value, c.in_ok-entries.ensures) (entries-row c.args.width c.in-Some.level c.in-Some.ensures)

pub blocks_in_series-requires-clause-room : goal.blocks_in_series-requires-clause-room
blocks_in_series-requires-clause-room c =
    rw c.reserve.ensures (place_for-all c.in_ok-draft.draft c.args.width c.in-Some.level c.in-Some.ensures
    (ap (λ p. p.balancers) c.in_ok-draft.ensures.plan))

-- the draft of the whole network
drawing : (c : In_ok-exits) → Drawn c.blocks_in_series.new.draft c.in_ok-exits.exits.items c.args.width (periodic_balancers c.in-Some.level)
    (periodic_depth c.in-Some.level) c.in-Some.level (λ f. net.periodic c.in-Some.level (map f (range_with_len 0 c.args.width)))
drawing c =
    let new = c.in_ok-draft.ensures in
    let made : BuildsPeriodic c.in_ok-draft.draft c.blocks_in_series.new.draft (range_with_len 0 c.args.width) c.in_ok-exits.exits.items
    c.in-Some.level =
    rw (c.deref.ensures.value, c.in_ok-entries.ensures, c.reserve.ensures) at c.in_ok-exits.ensures.built in
    drawn c.args.width c.in-Some.level (λ f. net.periodic c.in-Some.level (map f (range_with_len 0 c.args.width))) new.plan new.loose
    new.level made.built made.row made.flow

pub finish_counting-requires : goal.finish_counting-requires
finish_counting-requires c =
    let draft = drawing (goal.at.finish_counting-requires c).In_ok-exits in
    rw c.deref-2.ensures.value (record {
      count = outputs-count c.in-Some.level c.in_ok-exits.exits.items c.in-Some.ensures.small draft.exits;
      each = draft.each;
      counts = drawn-counts draft (λ f. c.periodic_counts.ensures.is_step c.in-Some.level (map f (range_with_len 0 c.args.width))
          (flows-row f c.args.width c.in-Some.level c.in-Some.ensures));
      deep = draft.deep;
    })

pub returns-clause-built : goal.returns-clause-built
returns-clause-built c level e =
    let same : level ≡ c.in-Some.level = same-level c.args.width c.in-Some.level level c.in-Some.ensures.wide e in
    let done = c.in_ok-finish_counting.ensures in
    rw same (drawn-built c.in_ok-finish_counting.field-0 Periodic c.args.width c.in-Some.ensures.wide
    (drawing (goal.at.returns-clause-built c).In_ok-exits) (rw c.deref-2.ensures.value at done.table) done.named done.counts)

pub returns-clause-order : goal.returns-clause-order
returns-clause-order c level e =
    let same : level ≡ c.in-Some.level = same-level c.args.width c.in-Some.level level c.in-Some.ensures.wide e in
    let order = rw (c.deref.ensures.value, c.in_ok-entries.ensures, c.reserve.ensures) at c.in_ok-exits.ensures.order in
    let made : periodic_plan c.in-Some.level ≡ (c.blocks_in_series.new.draft, c.in_ok-exits.exits.items) =
    rw (c.in_ok-draft.ensures.plan, c.in-Some.ensures.wide) at order in
    rw (same, made, ← c.deref-2.ensures.value) c.in_ok-finish_counting.ensures.table

pub returns-clause-exits : goal.returns-clause-exits
returns-clause-exits c level e f full =
    let same : level ≡ c.in-Some.level = same-level c.args.width c.in-Some.level level c.in-Some.ensures.wide e in
    let done = c.in_ok-finish_counting.ensures in
    let row = (drawing (goal.at.returns-clause-exits c).In_ok-exits).flow f (done.draft f full) in
    rw same (done.exits f ∙ rw c.deref-2.ensures.value row)
