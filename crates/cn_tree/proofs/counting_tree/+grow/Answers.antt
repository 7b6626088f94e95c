use Rattle.std.proofs.Common.{◌≡◌, ◌<◌, ◌∙◌, length, sym, arith}
use Rattle.std.proofs.lemmas.Result.{IfOk-weaker}
use Rattle.cn_spec.proofs.CallerLemmas.{tree-zero}
use Rattle.cn_tree.proofs.Grown.{first-loose, made_more, made_none, room_for-first, room_for-root, room_for-second, second-loose, tree-built, tree-flow, tree-row}
use Rattle.cn_tree.proofs.counting_tree.+grow.Goals as goal

pub returns-then-level-eq0-clause-flow : goal.returns-then-level-eq0-clause-flow
returns-then-level-eq0-clause-flow t c f flow = rw (c.in_ok-vec.ensures.items, c.if-level-eq0.true) (sym (tree-zero (f c.args.wire)))

pub fork-requires-clause-room : goal.fork-requires-clause-room
fork-requires-clause-room t c = room_for-root c.args.draft.now.balancers c.args.level (omega arith) c.requires.room

pub grow-requires : goal.grow-requires
grow-requires t c =
    let more : 0 < c.args.level = omega arith in
    let root = c.in_ok-first.ensures.built in
    (omega (arith, c.decreases), (room_for-first more c.requires.loose root c.requires.room, first-loose more c.requires.loose root))

pub grow-requires-2 : goal.grow-requires-2
grow-requires-2 t c =
    let more : 0 < c.args.level = omega arith in
    let root = c.in_ok-first.ensures.built in
    let one = c.in_ok-even.ensures.built in (
      omega (arith, c.decreases),
      (
        room_for-second more c.requires.loose root one c.requires.room,
        second-loose more c.requires.loose root one,
      ),
    )

pub returns-clause-built : goal.returns-clause-built
returns-clause-built t c =
    let more : 0 < c.args.level = omega arith in
    let same : length c.in_ok-even.even.items ≡ length c.in_ok-odd.odd.items = c.in_ok-even.ensures.row ∙ sym c.in_ok-odd.ensures.row in
    let built = tree-built more c.requires.loose c.in_ok-first.ensures.built c.in_ok-even.ensures.built c.in_ok-odd.ensures.built same in
    IfOk-weaker c.interleave.result _ _ (λ exits e. rw e built)
    (rw (c.deref.ensures.value, c.deref-2.ensures.value) at c.interleave.ensures)

pub returns-clause-row : goal.returns-clause-row
returns-clause-row t c =
    let row = tree-row c.args.level c.in_ok-even.even.items c.in_ok-odd.odd.items (omega arith) c.in_ok-even.ensures.row
    c.in_ok-odd.ensures.row in
    IfOk-weaker c.interleave.result _ _ (λ exits e. rw e row) (rw (c.deref.ensures.value, c.deref-2.ensures.value) at c.interleave.ensures)

pub returns-clause-flow : goal.returns-clause-flow
returns-clause-flow t c =
    let more : 0 < c.args.level = omega arith in
    let flows = tree-flow more c.requires.loose c.in_ok-first.ensures.built c.in_ok-even.ensures.built c.in_ok-odd.ensures.built in
    IfOk-weaker c.interleave.result _ _
    (λ exits e f flow. rw e (flows f flow c.in_ok-first.ensures.halves c.in_ok-even.ensures.flow c.in_ok-odd.ensures.flow))
    (rw (c.deref.ensures.value, c.deref-2.ensures.value) at c.interleave.ensures)

pub returns-then-level-eq0-clause-order : goal.returns-then-level-eq0-clause-order
returns-then-level-eq0-clause-order t c = rw (c.in_ok-vec.ensures.items, c.if-level-eq0.true) (made_none c.args.draft.now c.args.wire)

pub returns-clause-order : goal.returns-clause-order
returns-clause-order t c =
    let made = made_more c.args.draft.now c.args.wire c.args.level (omega arith) c.in_ok-first.ensures.plan c.in_ok-first.ensures.wires
    c.in_ok-even.ensures.order c.in_ok-odd.ensures.order in
    IfOk-weaker c.interleave.result _ _ (λ exits e. rw e made) (rw (c.deref.ensures.value, c.deref-2.ensures.value) at c.interleave.ensures)
