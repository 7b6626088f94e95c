use Rattle.cn_bitonic.proofs.Common.{ℕ, ◌∙◌, arith, all_ok}
use Rattle.cn_bitonic.proofs.MergerParts.{InnerMergers, first-asked, gives_all, gives_one, inner-mergers, last-asked, orders-all, orders-one, second-asked}
use Rattle.cn_bitonic.proofs.merging.+merger.Goals as goal
use Rattle.cn_bitonic.proofs.merging.+merger.Goals.{In_ok-z2}

pub returns-then-x-eq1-clause-built : goal.returns-then-x-eq1-clause-built
returns-then-x-eq1-clause-built t c =
    let made = c.join_all.ensures in
    all_ok c.join_all.result _ _ _ _ (λ y wires built flow. gives_one y.items c.if-x-eq1.true wires built flow) made.wires made.built
    made.flow

pub returns-then-x-eq1-clause-order : goal.returns-then-x-eq1-clause-order
returns-then-x-eq1-clause-order t c =
    let made = c.join_all.ensures in
    all_ok c.join_all.result _ _ _ _ (λ y wires plan built.
    orders-one c.args.draft.now c.args.x.now c.args.x2.now y.items c.if-x-eq1.true wires plan) made.wires made.plan made.built

pub merger-requires : goal.merger-requires
merger-requires t c =
    let even = c.deref.ensures.value ∙ c.in_ok-even.ensures in
    let odd2 = c.deref-2.ensures.value ∙ c.in_ok-odd2.ensures in
    let asked = first-asked c.args.draft.now c.args.x.now c.args.x2.now c.deref.result.now c.deref-2.result.now even odd2 c.if-x-eq1.false
    c.requires.rows c.requires.loose in
    (omega (arith, asked.0, c.decreases), asked.1)

pub merger-requires-2 : goal.merger-requires-2
merger-requires-2 t c =
    let even = c.deref.ensures.value ∙ c.in_ok-even.ensures in
    let odd2 = c.deref-2.ensures.value ∙ c.in_ok-odd2.ensures in
    let odd = c.deref-3.ensures.value ∙ c.in_ok-odd.ensures in
    let even2 = c.deref-4.ensures.value ∙ c.in_ok-even2.ensures in
    let asked =
    second-asked c.args.draft.now c.merger.new.draft c.args.x.now c.args.x2.now c.deref.result.now c.deref-2.result.now c.deref-3.result.now
    c.deref-4.result.now
    c.in_ok-z.z.items even odd2 odd even2 c.if-x-eq1.false c.requires.rows c.requires.loose c.in_ok-z.ensures.built in
    (omega (arith, asked.0, c.decreases), asked.1)

-- both inner mergers
inner : (t : ℕ) (c : In_ok-z2 t) → (n : ℕ)
    × InnerMergers c.args.draft.now c.merger.new.draft c.merger-2.new.draft c.args.x.now c.args.x2.now c.in_ok-z.z.items c.in_ok-z2.z2.items
    n
inner t c =
    let even = c.deref.ensures.value ∙ c.in_ok-even.ensures in
    let odd2 = c.deref-2.ensures.value ∙ c.in_ok-odd2.ensures in
    let odd = c.deref-3.ensures.value ∙ c.in_ok-odd.ensures in
    let even2 = c.deref-4.ensures.value ∙ c.in_ok-even2.ensures in
    inner-mergers c.args.draft.now c.merger.new.draft c.merger-2.new.draft c.args.x.now c.args.x2.now
    c.deref.result.now c.deref-2.result.now c.deref-3.result.now c.deref-4.result.now c.in_ok-z.z.items c.in_ok-z2.z2.items
    even odd2 odd even2 c.if-x-eq1.false c.requires.rows c.requires.loose
    c.in_ok-z.ensures.built c.in_ok-z.ensures.order c.in_ok-z2.ensures.built c.in_ok-z2.ensures.order

pub join_all-requires-2 : goal.join_all-requires-2
join_all-requires-2 t c =
    let (n, parts) = inner t (goal.at.join_all-requires-2 t c).In_ok-z2 in
    let asked = last-asked parts in
    rw (c.deref-5.ensures.value, c.deref-6.ensures.value) (record { same = asked.0; room = asked.1; loose = asked.2 })

pub returns-clause-built : goal.returns-clause-built
returns-clause-built t c =
    let (n, parts) = inner t (goal.at.returns-clause-built t c).In_ok-z2 in
    let made = rw (c.deref-5.ensures.value, c.deref-6.ensures.value) at c.join_all-2.ensures in
    all_ok c.join_all-2.result _ _ _ _ (λ y wires built flow. gives_all n y.items parts wires built flow) made.wires made.built made.flow

pub returns-clause-order : goal.returns-clause-order
returns-clause-order t c =
    let (n, parts) = inner t (goal.at.returns-clause-order t c).In_ok-z2 in
    let made = rw (c.deref-5.ensures.value, c.deref-6.ensures.value) at c.join_all-2.ensures in
    all_ok c.join_all-2.result _ _ _ _ (λ y wires plan built. orders-all n y.items parts wires plan) made.wires made.plan made.built
