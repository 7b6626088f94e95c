use Rattle.std.proofs.Common.{◌≡◌, ◌-◌, ◌^◌, ◌∙◌, refl, rules}
use Rattle.cn_spec.specs.Networks as net
use Rattle.cn_tables.specs.declared.kind.Kind.TheVariants.{Tree}
use Rattle.cn_spec.proofs.CallerLemmas.{same-level}
use Rattle.cn_wiring.proofs.CallerLemmas.{Drawn, drawn, drawn-built}
use Rattle.cn_tree.specs.Order.{tree_plan}
use Rattle.cn_tree.proofs.counting_tree.tree.Goals as goal
use Rattle.cn_tree.proofs.counting_tree.tree.Goals.{In_ok-exits}

-- the draft of the whole tree
drawing : (c : In_ok-exits) → Drawn c.grow.new.draft c.in_ok-exits.exits.items 1 (2 ^ c.in-Some.level - 1) c.in-Some.level c.in-Some.level
    (λ f. net.tree c.in-Some.level (f 0))
drawing c =
    let made = c.in_ok-exits.ensures in
    let new = c.in_ok-draft.ensures in
    drawn 1 c.in-Some.level (λ f. net.tree c.in-Some.level (f 0)) new.plan new.loose new.level (rw c.reserve.ensures at made.built) made.row
    made.flow

pub finish_counting-requires-clause-deep : goal.finish_counting-requires-clause-deep
finish_counting-requires-clause-deep c =
    rw c.deref.ensures.value (drawing (goal.at.finish_counting-requires-clause-deep c).In_ok-exits).deep

pub returns-clause-built : goal.returns-clause-built
returns-clause-built c level e =
    let same : level ≡ c.in-Some.level = same-level c.args.width c.in-Some.level level c.in-Some.ensures.wide e in
    let done = c.in_ok-finish_counting.ensures in
    rw (e, same) (drawn-built c.in_ok-finish_counting.field-0 Tree (2 ^ c.in-Some.level) refl
    (drawing (goal.at.returns-clause-built c).In_ok-exits) (rw c.deref.ensures.value at done.table) done.named done.counts)

pub returns-clause-order : goal.returns-clause-order
returns-clause-order c level e =
    let same : level ≡ c.in-Some.level = same-level c.args.width c.in-Some.level level c.in-Some.ensures.wide e in
    let made : tree_plan c.in-Some.level ≡ (c.grow.new.draft, c.in_ok-exits.exits.items) =
    rw (c.reserve.ensures, c.in_ok-draft.ensures.plan) at c.in_ok-exits.ensures.order in
    rw (same, made, ← c.deref.ensures.value) c.in_ok-finish_counting.ensures.table

pub returns-clause-exits : goal.returns-clause-exits
returns-clause-exits c level e f full =
    let same : level ≡ c.in-Some.level = same-level c.args.width c.in-Some.level level c.in-Some.ensures.wide e in
    let done = c.in_ok-finish_counting.ensures in
    let row = (drawing (goal.at.returns-clause-exits c).In_ok-exits).flow f (done.draft f full) in
    rw same (done.exits f ∙ rw c.deref.ensures.value row)
