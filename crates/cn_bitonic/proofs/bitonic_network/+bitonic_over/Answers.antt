use Rattle.cn_bitonic.proofs.Common.{ℕ, arith}
use Rattle.std.proofs.lemmas.Result.{IfOk-weaker}
use Rattle.cn_bitonic.proofs.Halves.{BothHalves, back-asked, both_halves, counted-all, counted-one, front-asked, merger-asked, ordered-all, ordered-one}
use Rattle.cn_bitonic.proofs.bitonic_network.+bitonic_over.Goals as goal
use Rattle.cn_bitonic.proofs.bitonic_network.+bitonic_over.Goals.{In_ok-x2}

pub returns-then-wires-eq1-clause-built : goal.returns-then-wires-eq1-clause-built
returns-then-wires-eq1-clause-built t c =
    IfOk-weaker c.to_vec.result _ _ (λ y same. counted-one y.items c.if-wires-eq1.true (same (λ a b e. e)))
    c.to_vec.ensures.items_if_clones_equal

pub returns-then-wires-eq1-clause-order : goal.returns-then-wires-eq1-clause-order
returns-then-wires-eq1-clause-order t c =
    IfOk-weaker c.to_vec.result _ _ (λ y same. ordered-one c.args.draft.now y.items c.if-wires-eq1.true (same (λ a b e. e)))
    c.to_vec.ensures.items_if_clones_equal

pub bitonic_over-requires : goal.bitonic_over-requires
bitonic_over-requires t c =
    let asked = front-asked c.args.draft.now c.args.wires.now c.split_at.result.0.now c.split_at.ensures.front c.if-wires-eq1.false
    c.requires.row c.requires.loose in
    (omega (arith, asked.0, c.decreases), asked.1)

pub bitonic_over-requires-2 : goal.bitonic_over-requires-2
bitonic_over-requires-2 t c =
    let asked =
    back-asked c.args.draft.now c.bitonic_over.new.draft c.args.wires.now c.split_at.result.0.now c.split_at.result.1.now c.in_ok-x.x.items
    c.split_at.ensures.front c.split_at.ensures.back c.if-wires-eq1.false c.requires.row c.requires.loose c.in_ok-x.ensures.built in
    (omega (arith, asked.0, c.decreases), asked.1)

-- the networks over both halves
halves : (t : ℕ) (c : In_ok-x2 t) → (n : ℕ)
    × BothHalves c.args.draft.now c.bitonic_over.new.draft c.bitonic_over-2.new.draft c.args.wires.now c.in_ok-x.x.items c.in_ok-x2.x2.items
    n
halves t c =
    both_halves c.args.draft.now c.bitonic_over.new.draft c.bitonic_over-2.new.draft c.args.wires.now
    c.split_at.result.0.now c.split_at.result.1.now c.in_ok-x.x.items c.in_ok-x2.x2.items
    c.split_at.ensures.front c.split_at.ensures.back c.if-wires-eq1.false c.requires.row c.requires.loose
    c.in_ok-x.ensures.built c.in_ok-x.ensures.order c.in_ok-x2.ensures.built c.in_ok-x2.ensures.order

pub merger-requires : goal.merger-requires
merger-requires t c =
    let (n, both) = halves t (goal.at.merger-requires t c).In_ok-x2 in
    rw (c.deref.ensures.value, c.deref-2.ensures.value) (record { rows = (merger-asked both).0; loose = (merger-asked both).1 })

pub returns-clause-built : goal.returns-clause-built
returns-clause-built t c =
    let (n, both) = halves t (goal.at.returns-clause-built t c).In_ok-x2 in
    IfOk-weaker c.merger.result _ _ (λ z gives. counted-all n z.items both gives)
    (rw (c.deref.ensures.value, c.deref-2.ensures.value) at c.merger.ensures.built)

pub returns-clause-order : goal.returns-clause-order
returns-clause-order t c =
    let (n, both) = halves t (goal.at.returns-clause-order t c).In_ok-x2 in
    IfOk-weaker c.merger.result _ _ (λ z orders. ordered-all n z.items both orders)
    (rw (c.deref.ensures.value, c.deref-2.ensures.value) at c.merger.ensures.order)
