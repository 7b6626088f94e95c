use Rattle.cn_yard.proofs.Common.{◌<◌, length, arith, set, ◌∙◌, sym, ap, next_of, prev_of, wire_of}
use Rattle.cn_yard.proofs.Unlinked.{Unlinks, near-below, off-kept, off-linked, some-there}
use Rattle.cn_yard.proofs.lines.unlink.Goals.{then-not-is_end, else-not-is_end}
use Rattle.cn_yard.proofs.lines.unlink.Goals as goal

unlinks : (c : goal.After-shorter)
    → Unlinks c.args.records.now c.args.lines.now c.if-not-is_end.records
    (set c.args.lines.now (wire_of c.args.records.now c.args.number) c.shorter.result) c.args.number
unlinks c = record {
  at_end = λ e. elim c.if-not-is_end.branch [
    | then-not-is_end w ↦ absurd (let t = w.if-not-is_end.true in let k = c.is_end.ensures in cc)
    | else-not-is_end w ↦ w.records-is
  ];
  between = λ e. elim c.if-not-is_end.branch [
    | then-not-is_end w ↦ rw w.records-is w.link.ensures
    | else-not-is_end w ↦ absurd (let t = w.if-not-is_end.false in let k = c.is_end.ensures in cc)
  ];
  lines_are = ap (λ l. set c.args.lines.now (wire_of c.args.records.now c.args.number) l) c.shorter.ensures;
}

near : (c : goal.After-link-arg-1)
    → (prev_of c.args.records.now c.args.number < length c.args.records.now)
    × (next_of c.args.records.now c.args.number < length c.args.records.now)
near c = let (order, l, one) = c.requires.linked in
    near-below l c.args.number c.requires.wire one (sym c.is_end.ensures ∙ c.if-not-is_end.true)

pub link-requires-clause-from : goal.link-requires-clause-from
link-requires-clause-from c = (near c).0

pub link-requires-clause-to : goal.link-requires-clause-to
link-requires-clause-to c = (near c).1

pub shorter-requires : goal.shorter-requires
shorter-requires c =
    let (order, l, one) = c.requires.linked in
    some-there l c.args.number _ c.requires.wire (omega (arith, one))

pub returns-clause-kept : goal.returns-clause-kept
returns-clause-kept c =
    let (order, l, one) = c.requires.linked in
    let some = some-there l c.args.number _ c.requires.wire (omega (arith, one)) in
    off-kept c.requires.wire some (unlinks c)

pub returns-clause-linked : goal.returns-clause-linked
returns-clause-linked c order l one = off-linked l c.requires.wire one (unlinks c) (returns-clause-kept c)
