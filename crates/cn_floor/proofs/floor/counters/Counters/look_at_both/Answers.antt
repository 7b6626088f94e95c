use Rattle.cn_floor.proofs.Common.{◌≡◌, ℕ, ◌+◌, ◌-◌, ◌++◌, [], length, rules, sym, ap, ◌∙◌, subst, arith, IsAnswer, Start, StoodInState, View, Pair, both_of, cut_first, first_after, after_entered, after_look}
use Rattle.cn_floor.proofs.InStates.Spreads.{first-there, joins-at}
use Rattle.cn_floor.proofs.InStates.Sharing.{answers-both, names-distinct, takes-together}
use Rattle.cn_floor.proofs.floor.counters.Counters.look_at_both.Goals as goal

pub join_seat-requires : goal.join_seat-requires
join_seat-requires g c =
    let first : c.look.new.seat.me.0 ≡ after_look c.args.seat.now.me.0 = c.look.ensures.looks.0 in
    let second : c.look-2.new.seat.me.0 ≡ after_look c.args.other.me.0 = c.look-2.ensures.looks.0 in
    let idle : c.look.new.seat.me.0.loads ≡ [] = ap (λ (v : View). v.loads) first ∙ c.requires.slots.1 in
    let idle' : c.look-2.new.seat.me.0.loads ≡ [] = ap (λ (v : View). v.loads) second ∙ c.requires.slots.3 in
    let long : length c.look-2.new.seat.me.0.tokens ≡ length c.look.new.seat.me.0.tokens =
    ap (λ (v : View). length v.tokens) second ∙ c.requires.wires ∙ sym (ap (λ (v : View). length v.tokens) first) in (
      search rules,
      search rules,
      search rules,
      first-there c.self.inside c.self.invariant c.self.view_is,
      joins-at c.self.inside c.self.invariant c.self.view_is (takes-together _ _ long c.args.self.now.start _ _ idle idle'),
    )

pub returns-clause-distinct : goal.returns-clause-distinct
returns-clause-distinct g c =
    let joined = ap (λ me. me.0.grants) c.join_seat.ensures.2 in
    let grants : c.load_all-entered.new.seat.me.0.grants ≡ c.args.seat.now.me.0.grants ++ c.args.other.me.0.grants =
    ap (λ (x : View). x.grants) c.load_all-entered.ensures.view ∙ joined
    ∙ (λ i. (c.look.ensures.looks.0 i).grants ++ (c.look-2.ensures.looks.0 i).grants) in
    names-distinct c.args.self.now.start c.args.seat.now.me.0 c.args.other.me.0 c.load_all-entered.new.seat.me.0 grants
    c.load_all-entered.ensures.in_state

pub returns-clause-in_state : goal.returns-clause-in_state
returns-clause-in_state g c =
    let joined = ap (λ me. me.0) c.join_seat.ensures.2 ∙ (λ i. both_of (c.look.ensures.looks.0 i) (c.look-2.ensures.looks.0 i)) in
    let is = c.load_all-entered.ensures.view ∙ ap (after_entered c.args.self.now.start c.load_all-entered.result) joined in
    (_, subst (StoodInState c.args.self.now.start) is c.load_all-entered.ensures.in_state)

pub returns-clause-answer : goal.returns-clause-answer
returns-clause-answer g c =
    let joined = ap (λ me. me.0) c.join_seat.ensures.2 ∙ (λ i. both_of (c.look.ensures.looks.0 i) (c.look-2.ensures.looks.0 i)) in
    let is = subst (λ (x : View). IsAnswer c.args.self.now.start x c.load_all-entered.result) joined c.load_all-entered.ensures.answer in
    answers-both c.args.self.now.start c.args.seat.now.me.0 c.args.other.me.0 _
    (record { own = is.own; seen = is.seen; names = is.names; quota = is.quota })

cut-first : (start : Start) (entered : ℕ) (p : Pair) (v l : View) → p.first ≡ after_look v
    → l ≡ after_entered start entered (both_of p.first p.second) → cut_first p l ≡ first_after start entered v
cut-first start entered p v l one is =
    let steps : v.steps + 1 + p.second.steps + 1 + start.network.table.entries - p.second.steps + 1
    ≡ v.steps + start.network.table.entries + 3 = omega arith in
    ap (cut_first p) is
    ∙ (λ i. record (one i) {
      seen = entered;
      steps = (one i).steps + p.second.steps + 1 + start.network.table.entries - p.second.steps + 1;
    })
    ∙ ap (λ (n : ℕ). record v { seen = entered; steps = n }) steps

pub cut_in_two-other-requires : goal.cut_in_two-other-requires
cut_in_two-other-requires g c =
    let start : Start = c.args.self.now.start in
    let entered : ℕ = c.load_all-entered.result in
    let first = c.look.ensures.looks.0 ∙ sym c.requires.pair.0 in
    let second = c.look-2.ensures.looks.0 ∙ sym c.requires.pair.1 in
    record {
      own = c.load_all-entered.ensures.seat.0 ∙ c.join_seat.ensures.0 ∙ c.look.ensures.seat.0 ∙ c.requires.own.0;
      slots = c.load_all-entered.ensures.seat.1;
      pair = c.load_all-entered.ensures.view ∙ ap (λ me. after_entered start entered me.0) c.join_seat.ensures.2
          ∙ (λ i. after_entered start entered (both_of (first i) (second i)));
      wires = ap (λ (v : View). length v.tokens) c.requires.pair.1 ∙ c.requires.wires
          ∙ sym (ap (λ (v : View). length v.tokens) c.requires.pair.0);
      idle = (
        ap (λ (v : View). v.loads) c.requires.pair.0 ∙ c.requires.slots.1,
        ap (λ (v : View). v.loads) c.requires.pair.1 ∙ c.requires.slots.3,
      );
      first = subst (StoodInState start) first c.look.ensures.looks.1;
      second = subst (StoodInState start) second c.look-2.ensures.looks.1;
    }

pub returns-clause-first : goal.returns-clause-first
returns-clause-first g c =
    let start : Start = c.args.self.now.start in
    let entered : ℕ = c.load_all-entered.result in
    let p : Pair = g.T.PairOf.pair in
    let is : c.load_all-entered.new.seat.me.0 ≡ after_entered start entered (both_of p.first p.second) =
    c.load_all-entered.ensures.view ∙ ap (λ me. after_entered start entered me.0) c.join_seat.ensures.2
    ∙ (λ i. after_entered start entered (both_of ((c.look.ensures.looks.0 ∙ sym c.requires.pair.0) i)
    ((c.look-2.ensures.looks.0 ∙ sym c.requires.pair.1) i))) in
    let view : cut_first p c.load_all-entered.new.seat.me.0 ≡ first_after start entered c.args.seat.now.me.0 =
    cut-first start entered p c.args.seat.now.me.0 _ c.requires.pair.0 is in (
      c.cut_in_two-other.ensures.first.0 ∙ c.load_all-entered.ensures.seat.0 ∙ c.join_seat.ensures.0 ∙ c.look.ensures.seat.0,
      c.cut_in_two-other.ensures.first.1 ∙ (λ i. (view i, [])),
    )

pub returns-clause-second : goal.returns-clause-second
returns-clause-second g c =
    let entered : ℕ = c.load_all-entered.result in
    let seen : c.load_all-entered.new.seat.me.0.seen ≡ entered = ap (λ (x : View). x.seen) c.load_all-entered.ensures.view in (
      c.cut_in_two-other.ensures.second.0 ∙ c.load_all-entered.ensures.seat.0 ∙ c.join_seat.ensures.0 ∙ c.look.ensures.seat.0,
      c.cut_in_two-other.ensures.second.1 ∙ (λ i. (record (c.requires.pair.1 i) { seen = seen i }, [])),
    )
