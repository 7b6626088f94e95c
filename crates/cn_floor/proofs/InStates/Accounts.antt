-- Each view accounts for its clients, also after a step, and for how many steps they took.
use Rattle.cn_floor.proofs.Common.{◌≡◌, ℕ, ◌+◌, ◌*◌, ◌%◌, ◌<◌, nat_tests, eqb, [], ◌++◌, length, get_or, ap, ◌∙◌, arith, Balancer, End, Exit, IsAccounted, IsThere, Network, View, after_enter, after_step, end_of, last_on, length-map-range_with_len, length-append, length_push, levels_in, on, on_in, output_wire, sum-below-one, sum-below-same, sum-below-zero, sum_below, tokens_in, when, without, All-push, one_at, sum-below-shift, refl, Start, sum-below-part, IsNetwork, levels, TakesItsSteps}
use Rattle.cn_floor.proofs.InStates.Ledgers.{on-after-enter, on-after_step, onto, Lands}

-- ---- sums over wires, each counted g times

-- one wire
pub at-one : (n w : ℕ) (g : ℕ → ℕ) → w < n → sum_below n (λ u. g u * one_at w u) ≡ g w
at-one n w g h =
    sum-below-same n (λ u. g u * one_at w u) (λ u. when (eqb w u) (g w)) (λ u l. each u) ∙ sum-below-one n w (g w) h
  where
    each : (u : ℕ) → g u * one_at w u ≡ when (eqb w u) (g w)
    each u = grind (arith, nat_tests)

-- the wires' sums rise as their counts do
pub weighed-on : (n : ℕ) (g : ℕ → ℕ) (old new from to : ℕ → ℕ) → ((u : ℕ) → new u + from u ≡ old u + to u)
    → sum_below n (λ u. g u * new u) + sum_below n (λ u. g u * from u) ≡ sum_below n (λ u. g u * old u) + sum_below n (λ u. g u * to u)
weighed-on n g old new from to h =
    sum-below-shift n (λ u. g u * new u) (λ u. g u * from u) (λ u. g u * old u) (λ u. g u * to u)
    (λ u l. omega (arith, ap (λ (k : ℕ). g u * k) (h u)))

-- a sum of nothing
pub at-none : (n : ℕ) (g : ℕ → ℕ) → sum_below n (λ u. g u * 0) ≡ 0
at-none n g = sum-below-zero n (λ u. g u * 0) (λ u. omega arith)

pub levels-one : (v : View) → tokens_in v.tokens ≡ levels_in (λ _. 1) v
levels-one v = sum-below-same (length v.tokens) (λ u. on_in u v) (λ u. 1 * on_in u v) (λ u l. omega arith)

-- ---- who comes in

module _ (network : Network) (token client entry : ℕ) (v : View) (low : entry < network.table.entries) (inside : entry < length v.tokens)
  where
    abbrev came : View
    came = after_enter token client entry v

    wires-came : length came.tokens ≡ length v.tokens
    wires-came = length-map-range_with_len (λ u. on v.tokens u ++ last_on token client entry u) 0 (length v.tokens)

    weighed-came : (g : ℕ → ℕ) → sum_below (length came.tokens) (λ u. g u * on_in u came)
        ≡ sum_below (length v.tokens) (λ u. g u * on_in u v) + g entry
    weighed-came g =
        let n : ℕ = length v.tokens in
        let moved = weighed-on n g (λ u. on_in u v) (λ u. on_in u came) (λ _. 0) (one_at entry)
        (λ u. omega (arith, on-after-enter token client entry v inside u)) in
        ap (λ (k : ℕ). sum_below k (λ u. g u * on_in u came)) wires-came ∙ omega (arith, at-none n g, at-one n entry g inside)

    pub accounted-after-enter : IsAccounted network v → IsAccounted network came
    accounted-after-enter account = record {
      all = omega (
        arith,
        account.all,
        length_push v.entries entry,
        weighed-came (λ _. 1),
        levels-one came,
        levels-one v,
      );
      entries = All-push (λ (u : ℕ). u < network.table.entries) v.entries entry account.entries low;
      walked = λ level is. omega (arith, account.walked level is, weighed-came level, is.entry entry low);
    }

-- ---- who goes

module _ (network : Network) (token client wire n : ℕ) (v : View) (is : IsThere v.tokens token client wire)
    (there : wire < length network.table.ends) (of : v.start.network ≡ network) where
  abbrev went : End → View
  went end = after_step token client end n v

  wires-went : (end : End) → length (went end).tokens ≡ length v.tokens
  wires-went (Balancer b) = length-map-range_with_len
      (λ u. without token (get_or v.tokens u []) ++ last_on token client (output_wire v.start.network.table b (n % 2)) u) 0
      (length v.tokens)
  wires-went (Exit i) = length-map-range_with_len (λ u. without token (get_or v.tokens u []) ++ []) 0 (length v.tokens)

  pub weighed-went : (g : ℕ → ℕ) (end : End) → Lands n v end
      → sum_below (length (went end).tokens) (λ u. g u * on_in u (went end)) + g wire
      ≡ sum_below (length v.tokens) (λ u. g u * on_in u v) + sum_below (length v.tokens) (λ u. g u * onto n v end u)
  weighed-went g end lands =
      let m : ℕ = length v.tokens in
      let moved = weighed-on m g (λ u. on_in u v) (λ u. on_in u (went end)) (one_at wire) (onto n v end)
      (λ u. on-after_step token client wire n v is end lands u) in
      let same = ap (λ (k : ℕ). sum_below k (λ u. g u * on_in u (went end))) (wires-went end) in
      omega (arith, at-one m wire g is.inside)

  pub accounted-after_step : (end : End) → end_of network.table wire ≡ end → Lands n v end → IsAccounted network v
      → IsAccounted network (went end)
  accounted-after_step (Balancer b) ends lands account =
      let out : ℕ = output_wire v.start.network.table b (n % 2) in
      let m : ℕ = length v.tokens in
      record {
        all = omega (
          arith,
          account.all,
          weighed-went (λ _. 1) (Balancer b) lands,
          at-one m out (λ _. 1) lands,
          levels-one (went (Balancer b)),
          levels-one v,
        );
        entries = account.entries;
        walked = λ level lv.
            let deeper : level out ≡ level wire + 1 =
            ap (λ (x : Network). level (output_wire x.table b (n % 2))) of ∙ lv.output wire b (n % 2) there ends (omega arith) in
            omega (
              arith,
              account.walked level lv,
              weighed-went level (Balancer b) lands,
              at-one m out level lands,
              length_push v.passages (record { balancer = b; number = n }),
            );
      }
  accounted-after_step (Exit i) ends lands account = record {
    all = simp length-append (omega (
      arith,
      account.all,
      weighed-went (λ _. 1) (Exit i) lands,
      at-none (length v.tokens) (λ _. 1),
      levels-one (went (Exit i)),
      levels-one v,
    ));
    entries = account.entries;
    walked = λ level lv. simp length-append (omega (
      arith,
      account.walked level lv,
      weighed-went level (Exit i) lands,
      at-none (length v.tokens) level,
      lv.exit wire i there ends,
    ));
  }

-- How many steps the tokens of a lane have taken.

-- where nobody is inside, there are no levels to add up
pub no-levels : (level : ℕ → ℕ) (v : View) → tokens_in v.tokens ≡ 0 → levels_in level v ≡ 0
no-levels level v none =
    sum-below-same (length v.tokens) (λ u. level u * on_in u v) (λ _. 0) (λ u l.
    let z : on_in u v ≡ 0 = omega (arith, sum-below-part (length v.tokens) u (λ x. on_in x v) l, none) in
    ap (λ (x : ℕ). level u * x) z ∙ omega arith)
    ∙ sum-below-zero (length v.tokens) (λ _. 0) (λ _. refl)

pub takes-steps : (start : Start) (v : View) → IsNetwork start.network → IsAccounted start.network v → TakesItsSteps start v
takes-steps start v net account none =
    let (level, is) = levels start.network.table net.formed start.network.depth net.deep in
    omega (arith, account.all, account.walked level is, no-levels level v none)
