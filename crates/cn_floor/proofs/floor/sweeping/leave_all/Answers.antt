use Rattle.cn_floor.proofs.Common.{◌≡◌, ℕ, ◌+◌, ◌-◌, ◌≤◌, ◌++◌, ◌∷◌, [], length, length-append, sym, ap, ◌∙◌, arith, rules, on, first-is, none-first, Grant}
use Rattle.cn_floor.proofs.InLane.Outs.{client-is, has-many, leaves-on, leaving, left-all, one-less, some-left, stands}
use Rattle.cn_floor.proofs.InLane.Named.{name-rises}
use Rattle.cn_floor.proofs.floor.sweeping.leave_all.Goals as goal

pub loop-token-init : goal.loop-token-init
loop-token-init c = record {
  so_far = leaving _ _ _ _ _ _ _ c.yard_laws.ensures.once;
  capacity = search rules;
}

pub release-client-requires : goal.release-client-requires
release-client-requires c =
    let next = first-is c.args.wire c.in-Some.token c.loop-token.yard (sym c.in-Some.is ∙ c.first.ensures) in
    rw (stands c.loop-token.invariant.so_far c.requires.wire next) (search rules)

pub push_reserved-requires : goal.push_reserved-requires
push_reserved-requires c =
    let next = first-is c.args.wire c.in-Some.token c.loop-token.yard (sym c.in-Some.is ∙ c.first.ensures) in
    omega (
      arith,
      c.requires.room,
      c.loop-token.invariant.capacity,
      has-many c.loop-token.invariant.so_far c.requires.wire next,
      some-left c.loop-token.invariant.so_far c.requires.wire next,
      c.loop-token.grants.ok,
    )

pub loop-token-smaller : goal.loop-token-smaller
loop-token-smaller c =
    let next = first-is c.args.wire c.in-Some.token c.loop-token.yard (sym c.in-Some.is ∙ c.first.ensures) in
    one-less c.loop-token.invariant.so_far c.requires.wire next _ c.release-client.ensures.released

pub loop-token-preserved : goal.loop-token-preserved
loop-token-preserved c =
    let next = first-is c.args.wire c.in-Some.token c.loop-token.yard (sym c.in-Some.is ∙ c.first.ensures) in
    let so_far = c.loop-token.invariant.so_far in
    let client = client-is so_far c.requires.wire next c.release-client.result c.release-client.ensures.client.0
    c.release-client.ensures.client.1 in
    let by : ℕ → ℕ → Grant =
    λ client name. record { client = client; exit = c.args.exit; visit = c.loop-token.visit; name = name } in
    let grants = c.push_reserved.ensures.items
    ∙ (λ i. c.loop-token.grants.items ++ by (client i) (c.name_of.ensures i - c.args.base) ∷ []) in
    record {
      so_far = leaves-on so_far c.requires.wire next c.release-client.new.self c.push_reserved.new.self.items
          c.release-client.ensures.released grants;
      capacity = c.push_reserved.ensures.capacity ∙ c.loop-token.invariant.capacity;
    }

pub returns-clause-freed : goal.returns-clause-freed
returns-clause-freed c =
    let none : on c.loop-token.yard.lists c.args.wire ≡ [] =
    none-first (on c.loop-token.yard.lists c.args.wire) (λ token is. c.in_default.not-Some token (c.first.ensures ∙ is)) in
    (left-all c.loop-token.invariant.so_far none).0

pub returns-clause-granted : goal.returns-clause-granted
returns-clause-granted c =
    let none : on c.loop-token.yard.lists c.args.wire ≡ [] =
    none-first (on c.loop-token.yard.lists c.args.wire) (λ token is. c.in_default.not-Some token (c.first.ensures ∙ is)) in
    (left-all c.loop-token.invariant.so_far none).1

pub name_of-requires : goal.name_of-requires
name_of-requires c =
    let so_far = c.loop-token.invariant.so_far in
    let low : c.loop-token.visit ≤ c.args.first + length (on c.args.yard.now.lists c.args.wire) =
    omega (arith, so_far.visit_is, ap length so_far.whole, length-append so_far.done so_far.rest) in
    omega (arith, c.requires.high, name-rises c.args.width c.args.exit _ _ low)

pub returns-clause-capacity : goal.returns-clause-capacity
returns-clause-capacity c = c.loop-token.invariant.capacity
