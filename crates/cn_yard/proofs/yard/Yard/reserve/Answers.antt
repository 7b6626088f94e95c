use Rattle.cn_yard.proofs.Common.{◌≡◌, ◌∙◌, ◌+◌, ◌≤◌, ℕ, List, Vec, Global, refl, ap, arith, MOST_TOKENS, Inside, Keeps, Line, Yard, count_of, lists_of, tokens_in, yard_of}
use Rattle.std.proofs.lemmas.Result.{on_err_weaker}
use Rattle.cn_yard.proofs.Wires.{closed}
use Rattle.cn_yard.proofs.Bodies.{Filled, after-fill, filled, filled-by, filled-lists, room-for, unfilled}
use Rattle.cn_yard.proofs.Changes.{is-same, lines-made}
use Rattle.cn_yard.proofs.yard.Yard.reserve.Goals.{After-deref_mut-2, After-fill}
use Rattle.cn_yard.proofs.yard.Yard.reserve.Goals as goal

-- a yard with other lines and marks
abbrev with_lines : Inside → Vec Line Global → Vec ℕ Global → Inside
with_lines y lines marks = record { wires = y.wires; records = y.records; lines = lines; marks = marks }

-- if the lines get no memory all is as it was
pub invariant_of-self : goal.invariant_of-self
invariant_of-self c =
    let (lines, marks) = c.in_err-make_lines.ensures.err in
    is-same c.self.inside (with_lines c.self.inside c.make_lines.new.lines c.make_lines.new.marks) refl refl lines marks c.self.invariant

-- ---- the lines are there

abbrev lined : After-deref_mut-2 → Inside
lined c = with_lines c.self.inside c.make_lines.new.lines c.make_lines.new.marks

made : (c : After-deref_mut-2) → ((order : ℕ → List ℕ) × Keeps (lined c) order) × (yard_of (lined c) ≡ yard_of c.self.inside)
made c =
    lines-made c.self.inside (lined c) c.self.invariant
    (record {
      wires = refl;
      fits = c.self.ranges.0.1;
      records = refl;
      same = c.in_ok-make_lines.ensures.same;
      made = c.in_ok-make_lines.ensures.made;
    })

-- as many are free as before
free : (c : After-deref_mut-2) → count_of c.deref_mut.result.now c.self.inside.wires ≡ c.args.self.now.spare
free c =
    ap (λ (ls : List Line). count_of ls c.self.inside.wires) c.deref_mut.ensures.value
    ∙ ap (λ (v : Yard). v.spare) ((made c).1 ∙ c.self.view_is)

pub fill-requires-clause-wire : goal.fill-requires-clause-wire
fill-requires-clause-wire c =
    let ((order, k), view) = made (goal.at.fill-requires-clause-wire c).After-deref_mut-2 in
    let as_many = k.wires in
    rw c.deref_mut.ensures.value (omega arith)

pub fill-requires-clause-less : goal.fill-requires-clause-less
fill-requires-clause-less c =
    let same = free (goal.at.fill-requires-clause-less c).After-deref_mut-2 in
    omega (arith, same, c.spare.ensures, c.if-records-spare.false)

pub fill-requires-clause-few : goal.fill-requires-clause-few
fill-requires-clause-few c =
    let ((order, k), view) = made (goal.at.fill-requires-clause-few c).After-deref_mut-2 in
    let z = lined (goal.at.fill-requires-clause-few c).After-deref_mut-2 in
    let room : tokens_in (lists_of z) + c.args.records ≤ MOST_TOKENS =
    omega (arith, c.requires, ap (λ (v : Yard). tokens_in v.lists) (view ∙ c.self.view_is)) in
    rw c.deref_mut.ensures.value (room-for z order c.args.records k room)

pub fill-requires-clause-lined : goal.fill-requires-clause-lined
fill-requires-clause-lined c =
    let ((order, k), view) = made (goal.at.fill-requires-clause-lined c).After-deref_mut-2 in
    rw (c.deref_mut.ensures.value, c.deref_mut-2.ensures.value) (order, k.lined)

-- ---- and the records are made

abbrev before : After-fill → Inside
before c = with_lines c.self.inside c.make_lines.new.lines c.make_lines.new.marks

abbrev after : After-fill → Inside
after c = after-fill (before c) c.fill.new.records c.fill.new.lines c.fill.new.marks

more : (c : After-fill) → Filled (before c) (after c)
more c =
    filled-by (before c) c.fill.new.marks c.deref_mut.ensures.value c.deref_mut-2.ensures.value c.deref_mut.ensures.len
    c.deref_mut-2.ensures.len c.fill.ensures.kept c.fill.ensures.lined c.fill.ensures.words

pub invariant_of-self-2 : goal.invariant_of-self-2
invariant_of-self-2 c =
    let here = goal.at.invariant_of-self-2 c in
    let ((order, k), view) = made here.After-deref_mut-2 in
    let (order', keeps, same) = filled k (more here.After-fill) in
    closed keeps

pub returns-clause-lists : goal.returns-clause-lists
returns-clause-lists c =
    let here = goal.at.returns-clause-lists c in
    let ((order, k), view) = made here.After-deref_mut-2 in
    filled-lists k (more here.After-fill) ∙ ap (λ (v : Yard). v.lists) (view ∙ c.self.view_is)

pub returns-clause-tokens : goal.returns-clause-tokens
returns-clause-tokens c =
    let here = goal.at.returns-clause-tokens c in
    let ((order, k), view) = made here.After-deref_mut-2 in
    ap tokens_in (filled-lists k (more here.After-fill)) ∙ ap (λ (v : Yard). tokens_in v.lists) (view ∙ c.self.view_is)

pub returns-clause-err : goal.returns-clause-err
returns-clause-err c =
    let here = goal.at.returns-clause-err c in
    let ((order, k), view) = made here.After-deref_mut-2 in
    on_err_weaker c.fill.result
    (λ same.
    unfilled (before here.After-fill) c.fill.new.records c.fill.new.lines c.fill.new.marks
    (c.fill.ensures.kept.as_many ∙ c.deref_mut.ensures.len) (same.0, same.1 ∙ c.deref_mut.ensures.value)
    ∙ view ∙ c.self.view_is)
    c.fill.ensures.err
