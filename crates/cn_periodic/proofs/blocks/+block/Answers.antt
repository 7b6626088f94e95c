use Rattle.cn_periodic.proofs.Common.{ℕ, ◌∙◌, arith, all_ok}
use Rattle.cn_periodic.proofs.BlockParts.{InnerBlocks, first-asked, gives_all, gives_one, inner-blocks, last-asked, orders-all, orders-one, second-asked, two-asked}
use Rattle.cn_periodic.proofs.blocks.+block.Goals as goal
use Rattle.cn_periodic.proofs.blocks.+block.Goals.{In_ok-z2}

pub join_all-requires : goal.join_all-requires
join_all-requires t c =
    let asked =
    two-asked c.args.draft.now c.args.wires.now c.deref.result.now c.deref-then-wires-eq2.result.now
    (c.deref.ensures.value ∙ c.in_ok-a.ensures) (c.deref-then-wires-eq2.ensures.value ∙ c.in_ok-b.ensures) c.requires.row
    c.requires.loose in
    record { same = asked.0; room = asked.1; loose = asked.2 }

pub returns-then-wires-eq2-clause-built : goal.returns-then-wires-eq2-clause-built
returns-then-wires-eq2-clause-built t c =
    let a = c.deref.ensures.value ∙ c.in_ok-a.ensures in
    let b = c.deref-then-wires-eq2.ensures.value ∙ c.in_ok-b.ensures in
    let made = c.join_all.ensures in
    all_ok c.join_all.result _ _ _ _ (λ y wires built flow. gives_one y.items a b c.if-wires-eq2.true wires built flow) made.wires
    made.built made.flow

pub returns-then-wires-eq2-clause-order : goal.returns-then-wires-eq2-clause-order
returns-then-wires-eq2-clause-order t c =
    let a = c.deref.ensures.value ∙ c.in_ok-a.ensures in
    let b = c.deref-then-wires-eq2.ensures.value ∙ c.in_ok-b.ensures in
    let made = c.join_all.ensures in
    all_ok c.join_all.result _ _ _ _ (λ y wires plan built.
    orders-one c.args.draft.now c.args.wires.now y.items a b c.if-wires-eq2.true wires plan) made.wires made.plan made.built

pub block-requires : goal.block-requires
block-requires t c =
    let a = c.deref-2.ensures.value ∙ c.in_ok-a.ensures in
    let asked = first-asked c.args.draft.now c.args.wires.now c.deref-2.result.now a c.if-wires-eq2.false c.requires.row c.requires.loose in
    (omega (arith, asked.0, c.decreases), asked.1)

pub block-requires-2 : goal.block-requires-2
block-requires-2 t c =
    let a = c.deref-2.ensures.value ∙ c.in_ok-a.ensures in
    let b = c.deref-3.ensures.value ∙ c.in_ok-b.ensures in
    let asked =
    second-asked c.args.draft.now c.block.new.draft c.args.wires.now c.deref-2.result.now c.deref-3.result.now c.in_ok-z.z.items
    a b c.if-wires-eq2.false c.requires.row c.requires.loose c.in_ok-z.ensures.built in
    (omega (arith, asked.0, c.decreases), asked.1)

-- both inner blocks
inner : (t : ℕ) (c : In_ok-z2 t) → (n : ℕ)
    × InnerBlocks c.args.draft.now c.block.new.draft c.block-2.new.draft c.args.wires.now c.in_ok-z.z.items c.in_ok-z2.z2.items n
inner t c =
    let a = c.deref-2.ensures.value ∙ c.in_ok-a.ensures in
    let b = c.deref-3.ensures.value ∙ c.in_ok-b.ensures in
    inner-blocks c.args.draft.now c.block.new.draft c.block-2.new.draft c.args.wires.now
    c.deref-2.result.now c.deref-3.result.now c.in_ok-z.z.items c.in_ok-z2.z2.items
    a b c.if-wires-eq2.false c.requires.row c.requires.loose
    c.in_ok-z.ensures.built c.in_ok-z.ensures.order c.in_ok-z2.ensures.built c.in_ok-z2.ensures.order

pub join_all-requires-2 : goal.join_all-requires-2
join_all-requires-2 t c =
    let (n, parts) = inner t (goal.at.join_all-requires-2 t c).In_ok-z2 in
    let asked = last-asked parts in
    rw (c.deref-4.ensures.value, c.deref-5.ensures.value) (record { same = asked.0; room = asked.1; loose = asked.2 })

pub returns-clause-built : goal.returns-clause-built
returns-clause-built t c =
    let (n, parts) = inner t (goal.at.returns-clause-built t c).In_ok-z2 in
    let made = rw (c.deref-4.ensures.value, c.deref-5.ensures.value) at c.join_all-2.ensures in
    all_ok c.join_all-2.result _ _ _ _ (λ y wires built flow. gives_all n y.items parts wires built flow) made.wires made.built made.flow

pub returns-clause-order : goal.returns-clause-order
returns-clause-order t c =
    let (n, parts) = inner t (goal.at.returns-clause-order t c).In_ok-z2 in
    let made = rw (c.deref-4.ensures.value, c.deref-5.ensures.value) at c.join_all-2.ensures in
    all_ok c.join_all-2.result _ _ _ _ (λ y wires plan built. orders-all n y.items parts wires plan) made.wires made.plan made.built
