use Rattle.cn_yard.proofs.Common.{◌≡◌, length, ◌∙◌, arith, true, rules, nat_tests, take_at}
use Rattle.cn_yard.proofs.AllLines.{added, added-kept, count-le, marks-one, new-one}
use Rattle.cn_yard.proofs.moves.add.Goals as goal

pub append-requires-clause-count : goal.append-requires-clause-count
append-requires-clause-count c =
    let (order, lined) = c.requires.lined in
    let most = count-le lined.links c.args.wire c.requires.wire in
    omega (arith, c.requires.few)

pub append-requires-clause-linked : goal.append-requires-clause-linked
append-requires-clause-linked c =
    let (order, lined) = c.requires.lined in
    let t = new-one (record { prev = 0; next = 0; wire = c.args.wire; client = 0 }) lined.links in
    let number : c.len-number.result ≡ length c.args.records.now.items = c.len-number.ensures ∙ search rules in
    rw (c.deref_mut.ensures.value, c.push_reserved.ensures.items, number) (order, t.linked, t.off)

pub mark-requires : goal.mark-requires
mark-requires c =
    let (order, lined) = c.requires.lined in
    omega (arith, lined.room, c.requires.wire)

pub returns-clause-kept : goal.returns-clause-kept
returns-clause-kept c =
    rw (take_at c.append.new.records _ c.push_reserved.new.self.len (c.append.ensures.kept.len ∙ c.deref_mut.ensures.len))
    (added-kept (record { prev = 0; next = 0; wire = c.args.wire; client = 0 })
    (c.deref_mut.ensures.value ∙ c.push_reserved.ensures.items) c.append.ensures.kept)

pub returns-clause-lined : goal.returns-clause-lined
returns-clause-lined c order lined =
    let number : c.len-number.result ≡ length c.args.records.now.items = c.len-number.ensures ∙ search rules in
    let len = (returns-clause-kept c).len in
    let few = c.requires.few in let room = lined.room in let short = lined.short in
    let as_many = c.append.ensures.kept.as_many in let words = c.mark.ensures.length in
    record {
      links =
          rw (take_at c.append.new.records _ c.push_reserved.new.self.len (c.append.ensures.kept.len ∙ c.deref_mut.ensures.len))
          (added (record { prev = 0; next = 0; wire = c.args.wire; client = 0 }) lined.links
          (c.deref_mut.ensures.value ∙ c.push_reserved.ensures.items) number c.requires.wire c.append.ensures.kept
          (c.append.ensures.linked order));
      few = omega arith;
      marks =
          marks-one c.args.lines.now c.append.new.lines c.args.marks.now c.mark.new.words c.args.wire true
          lined.marks c.mark.ensures.marks c.append.ensures.kept.as_many
          (λ u o. let k = c.append.ensures.kept.count u in grind (arith, nat_tests))
          (let k = c.append.ensures.kept.count c.args.wire in grind (arith, nat_tests));
      room = omega arith;
      short = omega arith;
    }
