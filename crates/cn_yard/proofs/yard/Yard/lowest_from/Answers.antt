use Rattle.cn_yard.proofs.Common.{◌≡◌, ℕ, ◌/◌, ◌<◌, Bool, false, nat_eq, vec_len, List, [], length, ap, ◌∙◌, arith, sym, subst, Inside, Keeps, Yard, lists_of, nat_tests, on, yard_of, IsYard}
use Rattle.cn_yard.proofs.Readers.{lowest-read, nobody-all, none-read}
use Rattle.cn_yard.proofs.Wires.{kept-some, wires-are}
use Rattle.cn_yard.proofs.yard.Yard.lowest_from.Goals as goal

-- as the yard's lists say it
below : (from : ℕ) (y : Inside) (z : Yard) → yard_of y ≡ z → ((u : ℕ) → u < from → on z.lists u ≡ []) → (u : ℕ) → u < from
    → on (lists_of y) u ≡ []
below from y z is none = subst (λ (x : Yard). (u : ℕ) → u < from → on x.lists u ≡ []) (sym is) none

-- there is a line
kept : (y : Inside) → IsYard y → (empty : Bool) → empty ≡ nat_eq (vec_len y.lines) 0 → empty ≡ false → (order : ℕ → List ℕ) × Keeps y order
kept y is empty said not = kept-some y is (grind (arith, nat_tests, y.lines.ok.0))

pub returns-then-is_empty-clause-none : goal.returns-then-is_empty-clause-none
returns-then-is_empty-clause-none c e wire =
    let y = c.self.inside in
    let none : length y.lines.items ≡ 0 = grind (arith, nat_tests, c.if-is_empty.true, y.lines.ok.0) in
    rw (← c.self.view_is) (nobody-all y c.self.invariant none wire)

pub least_from-requires-clause-length : goal.least_from-requires-clause-length
least_from-requires-clause-length c = let (order, k) =
    kept c.self.inside c.self.invariant c.is_empty.result c.is_empty.ensures c.if-is_empty.false in rw c.deref.ensures.value k.lined.short

pub least_from-requires-clause-word : goal.least_from-requires-clause-word
least_from-requires-clause-word c =
    let (order, k) = kept c.self.inside c.self.invariant c.is_empty.result c.is_empty.ensures c.if-is_empty.false in
    let wires : length c.args.self.now.lists ≡ c.self.inside.wires =
    ap (λ (y : Yard). length y.lists) (sym c.self.view_is) ∙ wires-are c.self.inside in
    omega (arith, c.requires.from, wires, k.wires, k.lined.room, ap (λ (ws : List ℕ). length ws) c.deref.ensures.value)

pub returns-in-Some-clause-some : goal.returns-in-Some-clause-some
returns-in-Some-clause-some c =
    let (order, k) = kept c.self.inside c.self.invariant c.is_empty.result c.is_empty.ensures c.if-is_empty.false in
    let (from, one, lower) = rw c.deref.ensures.value at c.in-Some.ensures in
    rw (← c.self.view_is) (lowest-read c.self.inside order k c.args.from (c.args.from / 64) (omega arith)
    (below c.args.from c.self.inside c.args.self.now c.self.view_is c.requires.none) c.in-Some.wire c.if-wire-self.true one lower)

pub returns-in_default-clause-none : goal.returns-in_default-clause-none
returns-in_default-clause-none c e wire =
    let (order, k) = kept c.self.inside c.self.invariant c.is_empty.result c.is_empty.ensures c.if-is_empty.false in
    let (from, one, lower) = rw c.deref.ensures.value at c.in-Some.ensures in
    rw (← c.self.view_is) (none-read c.self.inside order k c.args.from (c.args.from / 64) (omega arith)
    (below c.args.from c.self.inside c.args.self.now c.self.view_is c.requires.none) c.in-Some.wire c.if-wire-self.false lower wire)

pub returns-in_default-2-clause-none : goal.returns-in_default-2-clause-none
returns-in_default-2-clause-none c e wire =
    let (order, k) = kept c.self.inside c.self.invariant c.is_empty.result c.is_empty.ensures c.if-is_empty.false in
    rw (← c.self.view_is) (none-read c.self.inside order k c.args.from (c.args.from / 64) (omega arith)
    (below c.args.from c.self.inside c.args.self.now c.self.view_is c.requires.none) c.self.inside.wires (omega arith)
    (λ n from _. (rw c.deref.ensures.value at c.in_default.ensures) n from) wire)
