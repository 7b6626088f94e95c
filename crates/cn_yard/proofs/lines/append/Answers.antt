use Rattle.cn_yard.proofs.Common.{arith, ap, set}
use Rattle.cn_yard.proofs.AllLines.{Appends, last-below, on-kept, on-linked}
use Rattle.cn_yard.proofs.lines.append.Goals.{then-line-gt0, else-line-gt0}
use Rattle.cn_yard.proofs.lines.append.Goals as goal

appends : (c : goal.After-longer)
    → Appends c.args.records.now c.args.lines.now c.if-line-gt0.records c.set_wire.new.records
    (set c.args.lines.now c.args.wire c.longer.result) c.args.number c.args.wire
appends c = record {
  first = λ e. elim c.if-line-gt0.branch [
    | then-line-gt0 w ↦ absurd (let t = w.if-line-gt0.true in omega (arith, e, t))
    | else-line-gt0 w ↦ w.records-is
  ];
  later = λ e. elim c.if-line-gt0.branch [
    | then-line-gt0 w ↦ rw w.records-is w.link.ensures
    | else-line-gt0 w ↦ absurd (let t = w.if-line-gt0.false in omega (arith, e, t))
  ];
  records_are = c.set_wire.ensures;
  lines_are = ap (λ l. set c.args.lines.now c.args.wire l) c.longer.ensures;
}

pub link-requires-clause-from : goal.link-requires-clause-from
link-requires-clause-from c =
    let (order, l, off) = c.requires.linked in
    let some = c.if-line-gt0.true in
    last-below c.args.records.now c.args.lines.now order l c.args.wire c.requires.wire (omega (arith, some))

pub returns-clause-kept : goal.returns-clause-kept
returns-clause-kept c = on-kept c.requires.wire (appends c)

pub returns-clause-linked : goal.returns-clause-linked
returns-clause-linked c order l off =
    on-linked l off c.requires.number c.requires.wire (appends c) (returns-clause-kept c)
