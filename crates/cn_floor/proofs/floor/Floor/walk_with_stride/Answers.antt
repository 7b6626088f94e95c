use Rattle.cn_floor.proofs.Common.{◌≡◌, ℕ, ◌<◌, ◌++◌, [], length, replicate, rules, sym, ap, ◌∙◌, subst, arith, Exit, FloorValue, IsAlone, IsAtomicStep, IsLetBy, Start, View, end_of, last_on, length-map-range_with_len, on, Enters}
use Rattle.cn_floor.proofs.InLane.Alone.{there-alone}
use Rattle.cn_floor.proofs.InLane.Named.{alone-entered, gone-alone}
use Rattle.cn_floor.proofs.floor.Floor.walk_with_stride.Goals as goal

pub pass_on-wire-requires-clause-alone : goal.pass_on-wire-requires-clause-alone
pass_on-wire-requires-clause-alone g c =
    let v : View = c.args.post.now.view in
    let inside : c.args.entry < length v.tokens =
    omega (
      arith,
      c.requires.entry,
      c.post_laws.ensures.wires,
      ap (λ (h : FloorValue). length h.start.network.table.ends) c.requires.own,
      c.start_laws.ensures.network.formed.wires,
    ) in
    subst (λ (x : View). IsAlone x.tokens c.first-token.result c.args.client c.args.entry) (sym c.enter.ensures.came.0)
    (alone-entered c.first-token.result c.args.client c.args.entry v inside c.requires.out)

pub step-visit-requires-clause-there : goal.step-visit-requires-clause-there
step-visit-requires-clause-there g c =
    there-alone c.pass_on-wire.new.post.view.tokens c.first-token.result c.args.client c.pass_on-wire.result.0 c.pass_on-wire.ensures.alone

pub returns-clause-gone : goal.returns-clause-gone
returns-clause-gone g c =
    let v : View = c.args.post.now.view in
    let before : View = c.pass_on-wire.new.post.view in
    let wires : length before.tokens ≡ length v.tokens =
    c.pass_on-wire.ensures.passed.wires ∙ ap (λ (x : View). length x.tokens) c.enter.ensures.came.0
    ∙ length-map-range_with_len (λ u. on v.tokens u ++ last_on c.first-token.result c.args.client c.args.entry u) 0 (length v.tokens) in
    ap (λ (x : View). x.tokens) c.step-visit.ensures.went.0
    ∙ gone-alone c.first-token.result c.args.client c.pass_on-wire.result.0 c.pass_on-wire.result.1 c.step-visit.result before
    c.pass_on-wire.ensures.alone
    ∙ ap (λ (n : ℕ). replicate n []) wires

pub returns-clause-walked : goal.returns-clause-walked
returns-clause-walked g c =
    let same = ap (λ (h : FloorValue). h.start) c.self.view_is in
    record {
      token = c.first-token.result;
      numbers = c.pass_on-wire.ensures.by.0;
      wire = c.pass_on-wire.result.0;
      inside = c.enter.new.post.view;
      before = c.pass_on-wire.new.post.view;
      came = c.enter.ensures.came.0;
      comes = subst (λ (s : Start). IsAtomicStep s c.args.post.now.view c.enter.new.post.view
          (λ l m. Enters s.network.table l m c.args.client c.args.entry)) same c.enter.ensures.came.1;
      passes = c.pass_on-wire.ensures.by.1;
      ends = search rules;
      leaves = subst (λ (s : Start). IsLetBy s c.pass_on-wire.new.post.view c.step-visit.new.post.view c.args.client
          (Exit c.pass_on-wire.result.1) c.step-visit.result) same c.step-visit.ensures.went.1;
      after = c.step-visit.ensures.went.0;
    }

pub step-visit-requires-clause-ends : goal.step-visit-requires-clause-ends
step-visit-requires-clause-ends g c =
    ap (λ (h : FloorValue). end_of h.start.network.table c.pass_on-wire.result.0) c.self.view_is ∙ c.pass_on-wire.ensures.exit

pub step-visit-requires-clause-stands : goal.step-visit-requires-clause-stands
step-visit-requires-clause-stands g c =
    subst (λ (h : FloorValue). c.pass_on-wire.result.1 < h.start.network.table.width) (sym c.self.view_is) c.pass_on-wire.ensures.low
