use Rattle.cn_lists.proofs.Common.{◌≡◌, ℕ, ◌+◌, ◌-◌, ◌*◌, ◌<◌, ◌≤◌, List, ◌++◌, arith, length, sym, ap, ◌∙◌, refl, subst, append-nil, slice_index, mul-le-mul_left, Grant, AreNoted, gone_too, placed, grants_out}
use Rattle.cn_lists.proofs.ByPlace.{none-too, noted-next}
use Rattle.cn_lists.proofs.listed.PlacesPartyGranting.leave.Goals as goal

pub loop-number-init : goal.loop-number-init
unfolding placed grants_out
loop-number-init c = record {
  noted = λ before now gone was. subst (λ (z : List Grant × (ℕ → ℕ)). AreNoted before z.0 z.1
      c.args.notes.now.list.now.clients.now c.args.notes.now.grants.now.items c.args.notes.now.list.now.names.now)
      (λ i. (sym (append-nil now) i, sym (none-too gone) i)) was;
  kept = (refl, refl, refl);
  many = omega arith;
  capacity = refl;
}

pub loop-number-preserved : goal.loop-number-preserved
loop-number-preserved c =
    let g = c.args.self in
    let clients : List ℕ = c.args.notes.now.list.now.clients.now in
    let j : ℕ = c.loop-number.number in
    let was = c.loop-number.invariant in
    let by : ℕ → Grant = λ name. record {
      client = slice_index clients (g.first + g.gap * j);
      exit = c.args.exit;
      visit = c.args.first + j;
      name = name - c.args.base;
    } in
    let less : j ≤ c.args.count - 1 = omega (arith, c.loop-number-test.true) in
    let inside : g.first + g.gap * j < length clients =
    omega (arith, c.requires.are.1.within (omega (arith, c.loop-number-test.true)), mul-le-mul_left g.gap less) in
    let (same, named, long) = c.write.ensures.kept in
    let (same2, named2, long2) = was.kept in
    record {
      noted = λ before now gone is. noted-next now gone c.args.width c.args.base c.args.exit c.args.first g.first g.gap j
          c.push_reserved.new.self.items c.write.new.self.names.now (by c.name_of.result) (was.noted before now gone is)
          (ap by c.name_of.ensures) c.push_reserved.ensures.items inside long c.write.ensures.here c.write.ensures.others;
      kept = (same ∙ same2, named ∙ named2, long ∙ long2);
      many = omega (arith, c.push_reserved.ensures.len, was.many);
      capacity = c.push_reserved.ensures.capacity ∙ was.capacity;
    }

pub returns-clause-noted : goal.returns-clause-noted
returns-clause-noted c tokens before now gone many stand noted =
    let g = c.args.self in
    let all : c.loop-number.number ≡ c.args.count = omega (arith, c.loop-number-test.false, c.loop-number.auto.number-end) in
    let (same, _, _) = c.loop-number.invariant.kept in
    subst (λ (z : List (ℕ × ℕ) × List ℕ). AreNoted before
    (now ++ grants_out c.args.width c.args.base c.args.exit c.args.first z.0) (gone_too gone z.0) z.1 c.loop-number.grants.items
    c.loop-number.list.names.now)
    (λ i. ((ap (placed c.args.notes.now.list.now.clients.now g.first g.gap) all ∙ sym stand.are) i, (sym same i).now))
    (c.loop-number.invariant.noted before now gone noted)
