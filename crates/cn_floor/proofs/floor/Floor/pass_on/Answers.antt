use Rattle.cn_floor.proofs.Common.{◌≡◌, ℕ, ◌+◌, ◌*◌, ◌%◌, ◌<◌, ◌⊎◌, inl, inr, List, [], ◌∷◌, ◌++◌, length, refl, sym, ap, ◌∙◌, subst, arith, Balancer, End, Exit, FloorValue, IsAlone, IsLetBy, IsWellFormed, Network, Stands, Start, View, after_step, end_of, output_wire, OnlyPassed, PassesOn, mod_below, IsNetwork}
use Rattle.cn_floor.proofs.InLane.Alone.{alone-on, passed-more, passed-on, passes-more, there-alone}
use Rattle.cn_floor.proofs.InLane.Depths.{EndsAt, LiesAt, at-balancer, at-exit, entries-first, one-deeper}
use Rattle.cn_floor.proofs.floor.Floor.pass_on.Given as given
use Rattle.cn_floor.proofs.floor.Floor.pass_on.Goals as goal

pub step-number-requires-clause-there : goal.step-number-requires-clause-there
step-number-requires-clause-there g c =
    there-alone c.loop-passed.post.view.tokens c.args.token c.args.client c.loop-passed.at c.loop-passed.invariant.alone

-- where a wire ends of which the number was found
found : (network at : Network) → at ≡ network → (u n : ℕ) (end : End) → end_of at.table u ≡ end → (end ≡ Balancer n) ⊎ (end ≡ Exit n)
    → EndsAt network u n
found network at same u n end is (inl e) = inl (ap (λ (x : Network). end_of x.table u) (sym same) ∙ is ∙ e)
found network at same u n end is (inr e) = inr (ap (λ (x : Network). end_of x.table u) (sym same) ∙ is ∙ e)

-- before a step
module _ (g : given.Over) (c : goal.After-step-arg-1 g) where
  there : c.loop-passed.at < length c.args.self.now.start.network.table.ends
  there = omega (
    arith,
    c.loop-passed.invariant.alone.inside,
    c.loop-passed.invariant.passed.wires,
    c.post_laws.ensures.wires,
    ap (λ (h : FloorValue). length h.start.network.table.ends) c.requires.own,
  )

  is-network : IsNetwork c.args.self.now.start.network
  is-network = subst IsNetwork c.requires.network c.depth-passed-end.ensures.network

  ends : end_of c.args.self.now.start.network.table c.loop-passed.at ≡ Balancer c.loop-passed.ends_at
  ends =
      at-balancer c.args.self.now.start.network is-network c.loop-passed.at there c.loop-passed.passed c.loop-passed.ends_at
      c.loop-passed.invariant.deep
      (omega (
        arith,
        c.loop-passed-test.true,
        c.depth-passed-end.ensures.value,
        ap (λ (x : Network). x.depth) (sym c.requires.network),
      ))
      c.loop-passed.invariant.end

pub step-number-requires-clause-ends : goal.step-number-requires-clause-ends
step-number-requires-clause-ends g c = ap (λ (h : FloorValue). end_of h.start.network.table c.loop-passed.at) c.self.view_is ∙ ends g c

pub step-number-requires-clause-stands : goal.step-number-requires-clause-stands
step-number-requires-clause-stands g c =
    subst (λ (h : FloorValue). c.loop-passed.ends_at < h.start.network.table.balancers) (sym c.self.view_is)
    (subst (Stands c.args.self.now.start.network.table) (ends g c) ((is-network g c).formed.stands c.loop-passed.at (there g c)))

-- at a balancer
module _ (g : given.Over) (c : goal.After-number_of-ends_at-in-loop-passed g) where
  abbrev start : Start
  start = c.args.self.now.start

  abbrev v : View
  v = c.loop-passed.post.view

  abbrev b : ℕ
  b = c.loop-passed.ends_at

  abbrev n : ℕ
  n = c.step-number.result

  of : v.start ≡ start
  of = c.loop-passed.invariant.passed.start ∙ c.post_laws.ensures.start ∙ ap (λ (h : FloorValue). h.start) c.requires.own

  abbrev before-step : goal.After-step-arg-1 g
  before-step = c.before.before.before.before.before

  formed : IsWellFormed start.network.table
  formed = (is-network g before-step).formed

  wires : length v.tokens ≡ length start.network.table.ends
  wires = c.loop-passed.invariant.passed.wires ∙ c.post_laws.ensures.wires
      ∙ ap (λ (h : FloorValue). length h.start.network.table.ends) c.requires.own

  to : c.entries.result + 2 * b + c.output_of.result ≡ output_wire v.start.network.table b (n % 2)
  to = omega (
    arith,
    c.output_of.ensures,
    c.entries.ensures.value,
    ap (λ (x : Network). x.table.entries) (sym c.requires.network),
    ap (λ (s : Start). s.network.table.entries) of,
  )

  went : c.step-number.new.post.view ≡ after_step c.args.token c.args.client (Balancer b) n v
  went = c.step-number.ensures.went.0

  alone : IsAlone c.step-number.new.post.view.tokens c.args.token c.args.client (c.entries.result + 2 * b + c.output_of.result)
  alone = subst (λ (z : View × ℕ). IsAlone z.0.tokens c.args.token c.args.client z.1) (λ i. (sym went i, sym to i))
      (alone-on start formed v of wires _ _ _ b n c.loop-passed.invariant.alone (ends g before-step))

  passed : OnlyPassed v c.step-number.new.post.view
  passed = subst (OnlyPassed v) (sym went) (passed-on c.args.token c.args.client b n v)

  let-by : IsLetBy start v (after_step c.args.token c.args.client (Balancer b) n v) c.args.client (Balancer b) n
  let-by =
      subst (λ (s : Start). IsLetBy s v (after_step c.args.token c.args.client (Balancer b) n v) c.args.client (Balancer b) n)
      (ap (λ (h : FloorValue). h.start) c.self.view_is)
      (subst (λ (w : View). IsLetBy c.self.inside.counters.start v w c.args.client (Balancer b) n) went c.step-number.ensures.went.1)

  onto : output_wire start.network.table b (n % 2) ≡ c.entries.result + 2 * b + c.output_of.result
  onto = sym (to ∙ ap (λ (s : Start). output_wire s.network.table b (n % 2)) of)

  further-by : (numbers : List ℕ) × PassesOn start c.args.token c.args.client numbers c.args.entry c.args.post.now.view
      (c.entries.result + 2 * b + c.output_of.result) c.step-number.new.post.view
  further-by =
      let (ns, so) = c.loop-passed.invariant.by in (
        ns ++ n ∷ [],
        subst (λ (z : ℕ × View). PassesOn start c.args.token c.args.client (ns ++ n ∷ []) c.args.entry c.args.post.now.view z.0 z.1)
            (λ i. (onto i, sym went i))
            (passes-more start c.args.token c.args.client ns c.args.entry _ c.loop-passed.at v b n so (ends g before-step) let-by),
      )

pub loop-passed-init : goal.loop-passed-init
unfolding PassesOn
loop-passed-init g c = record {
  home = refl;
  passed = search;
  alone = c.requires.alone;
  deep = entries-first c.args.self.now.start.network
      (subst IsNetwork c.requires.network c.depth-passed-end.ensures.network) c.args.entry
      (omega (
        arith,
        c.requires.alone.inside,
        c.post_laws.ensures.wires,
        ap (λ (h : FloorValue). length h.start.network.table.ends) c.requires.own,
      )) c.requires.entry;
  end = found c.args.self.now.start.network c.args.network.now c.requires.network c.args.entry
      c.number_of-ends_at.result c.end.result c.end.ensures.at c.number_of-ends_at.ensures;
  by = ([], (refl, refl));
}

pub loop-passed-preserved : goal.loop-passed-preserved
loop-passed-preserved g c = record {
  home = c.step-number.ensures.home ∙ c.loop-passed.invariant.home;
  passed = passed-more _ _ _ c.loop-passed.invariant.passed (passed g c);
  alone = alone g c;
  deep = subst (LiesAt c.args.self.now.start.network (c.loop-passed.passed + 1)) (onto g c)
      (one-deeper c.args.self.now.start.network (is-network g (before-step g c)) c.loop-passed.at
      (there g (before-step g c)) c.loop-passed.passed c.loop-passed.ends_at (c.step-number.result % 2)
      c.loop-passed.invariant.deep (ends g (before-step g c))
      (mod_below c.step-number.result 2 (omega arith)));
  end = found c.args.self.now.start.network c.args.network.now c.requires.network _
      c.number_of-ends_at-in-loop-passed.result c.end-in-loop-passed.result c.end-in-loop-passed.ensures.at
      c.number_of-ends_at-in-loop-passed.ensures;
  by = further-by g c;
}

-- at the end
module _ (g : given.Over) (c : goal.After-loop-passed g) where
  at-end : IsNetwork c.args.self.now.start.network
  at-end = subst IsNetwork c.requires.network c.depth-passed-end.ensures.network

  inside : c.loop-passed.at < length c.args.self.now.start.network.table.ends
  inside = omega (
    arith,
    c.loop-passed.invariant.alone.inside,
    c.loop-passed.invariant.passed.wires,
    c.post_laws.ensures.wires,
    ap (λ (h : FloorValue). length h.start.network.table.ends) c.requires.own,
  )

  last : end_of c.args.self.now.start.network.table c.loop-passed.at ≡ Exit c.loop-passed.ends_at
  last =
      let all : c.loop-passed.passed ≡ c.args.self.now.start.network.depth = omega (
        arith,
        c.loop-passed-test.false,
        c.loop-passed.auto.passed-end,
        c.depth-passed-end.ensures.value,
        ap (λ (x : Network). x.depth) (sym c.requires.network),
      ) in
      at-exit c.args.self.now.start.network at-end c.loop-passed.at inside c.loop-passed.ends_at
      (subst (λ (k : ℕ). LiesAt c.args.self.now.start.network k c.loop-passed.at) all c.loop-passed.invariant.deep)
      c.loop-passed.invariant.end

pub returns-clause-exit : goal.returns-clause-exit
returns-clause-exit g c = last g c

pub returns-clause-low : goal.returns-clause-low
returns-clause-low g c =
    subst (Stands c.args.self.now.start.network.table) (last g c) ((at-end g c).formed.stands c.loop-passed.at (inside g c))
