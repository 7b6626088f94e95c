use Rattle.cn_yard.proofs.Common.{ℕ, List, refl, arith, true, ltb, but, count_of, nat_tests, wire_of, HasMarks, IsLined}
use Rattle.cn_yard.proofs.AllLines.{ButOne, but-one, but-none, count-le, marks-one}
use Rattle.cn_yard.proofs.moves.relink.Goals.{After-unlink}
use Rattle.cn_yard.proofs.moves.relink.Goals as goal

-- all records but this one are on their lines
off : (c : After-unlink) (order : ℕ → List ℕ) → IsLined c.args.records.now c.args.lines.now c.args.marks.now order
    → ButOne c.unlink.new.records c.unlink.new.lines (λ u. but c.args.number (order u)) c.args.number
off c order lined =
    let is = lined.links in
    but-one is c.requires.number c.unlink.ensures.kept
    (c.unlink.ensures.linked order is.linked (is.there c.args.number c.requires.number))

pub unlink-requires-clause-wire : goal.unlink-requires-clause-wire
unlink-requires-clause-wire c = let (order, lined) = c.requires.lined in lined.links.within c.args.number c.requires.number

pub unlink-requires-clause-linked : goal.unlink-requires-clause-linked
unlink-requires-clause-linked c =
    let (order, lined) = c.requires.lined in
    (order, lined.links.linked, lined.links.there c.args.number c.requires.number)

pub append-requires-clause-count : goal.append-requires-clause-count
append-requires-clause-count c =
    let (order, lined) = c.requires.lined in
    let most = count-le lined.links c.args.wire c.requires.wire in
    omega (arith, c.unlink.ensures.kept.count c.args.wire, lined.few)

pub append-requires-clause-linked : goal.append-requires-clause-linked
append-requires-clause-linked c =
    let (order, lined) = c.requires.lined in
    let but-it = off (goal.at.append-requires-clause-linked c).After-unlink order lined in
    ((λ u. but c.args.number (order u)), but-it.linked, but-it.off)

pub mark-requires : goal.mark-requires
mark-requires c =
    let (order, lined) = c.requires.lined in
    omega (arith, lined.room, lined.links.within c.args.number c.requires.number)

pub mark-requires-2 : goal.mark-requires-2
mark-requires-2 c =
    let (order, lined) = c.requires.lined in
    omega (arith, lined.room, c.requires.wire, c.mark.ensures.length)

pub returns-clause-lined : goal.returns-clause-lined
returns-clause-lined c order lined =
    let but-it = off (goal.at.returns-clause-lined c).After-unlink order lined in
    let from = wire_of c.args.records.now c.args.number in
    let left : HasMarks c.unlink.new.lines c.mark.new.words =
    marks-one c.args.lines.now c.unlink.new.lines c.args.marks.now c.mark.new.words from (ltb 0 (count_of c.unlink.new.lines from))
    lined.marks c.mark.ensures.marks c.unlink.ensures.kept.as_many
    (λ u o. let k = c.unlink.ensures.kept.count u in grind (arith, nat_tests)) refl in
    let few = lined.few in let room = lined.room in let short = lined.short in
    let len = c.append.ensures.kept.len in let len' = c.unlink.ensures.kept.len in
    let as_many = c.append.ensures.kept.as_many in let as_many' = c.unlink.ensures.kept.as_many in
    let words = c.mark-2.ensures.length in let words' = c.mark.ensures.length in
    record {
      links =
          but-none but-it (rw c.unlink.ensures.kept.as_many c.requires.wire) c.append.ensures.kept
          (c.append.ensures.linked (λ u. but c.args.number (order u)) but-it.linked but-it.off);
      few = omega arith;
      marks =
          marks-one c.unlink.new.lines c.append.new.lines c.mark.new.words c.mark-2.new.words c.args.wire true
          left c.mark-2.ensures.marks c.append.ensures.kept.as_many
          (λ u o. let k = c.append.ensures.kept.count u in grind (arith, nat_tests))
          (let k = c.append.ensures.kept.count c.args.wire in grind (arith, nat_tests));
      room = omega arith;
      short = omega arith;
    }
