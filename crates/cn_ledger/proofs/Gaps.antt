-- Names that are missing are as many as clients are inside.
use Rattle.cn_ledger.proofs.Common.{◌≡◌, ℕ, zero, suc, ◌+◌, ◌-◌, ◌*◌, ◌/◌, ◌%◌, ◌<◌, ◌≤◌, eqb, sym, refl, ap, ◌∙◌, arith, nat_tests, mod_below, name_of, share, once_below, sum_below, when, name-below, share-next, share-stays, sum-below-part, sum-below-pick, sum-below-plus, sum-below-same, sum-below-zero, Exit, Counts, IsWellFormed, Table, sum_at, full-flow-exists, full-flow-sum, IsSound, Ledger, all_entered, times_given}
use Rattle.cn_ledger.specs.Gaps.{IsNearShares, IsSmooth, names_missing}
use Rattle.cn_ledger.specs.Laws.{all_inside}
use Rattle.cn_ledger.proofs.Bound.{bounded, exit-shares, nobody-lost}

-- a visit that is not below the share has a name that is not below the number
least : (m w i v : ℕ) → i < w → share m w i ≤ v → m ≤ name_of w i v
least m w i v h few = grind (arith, (name-below m w i v h).1)

module _ (t : Table) (w : IsWellFormed t) (l : Ledger) (sound : IsSound t l) where
  -- the names below m that are not given, exit by exit
  missing-below : (m : ℕ) → sum_below m (λ name. 1 - times_given t l name)
      ≡ sum_below t.width (λ i. share m t.width i - l.count (Exit i))
  unfolding sum_below
  missing-below zero = sym (sum-below-same t.width (λ i. share 0 t.width i - l.count (Exit i)) (λ _. 0)
      (λ i h. grind (arith, (name-below 0 t.width i 0 h).0))
      ∙ sum-below-zero t.width (λ _. 0) (λ _. refl))
  missing-below (suc m) =
      let at : ℕ = m % t.width in
      let q : ℕ = m / t.width in
      let low : at < t.width = mod_below m t.width (omega (arith, w.width.0)) in
      let gap : ℕ = 1 - once_below (l.count (Exit at)) q in
      let given : times_given t l m ≡ once_below (l.count (Exit at)) q = sound.numbered (Exit at) q low in
      let each : (i : ℕ) → i < t.width → share (suc m) t.width i - l.count (Exit i)
      ≡ when (eqb at i) gap + (share m t.width i - l.count (Exit i)) =
      λ i h. grind (arith, nat_tests, share-next m t.width i h, share-stays m t.width i h) in
      let all : sum_below t.width (λ i. share (suc m) t.width i - l.count (Exit i))
      ≡ gap + sum_below t.width (λ i. share m t.width i - l.count (Exit i)) =
      sum-below-same t.width _ _ each
      ∙ sum-below-pick t.width at gap (λ i. share m t.width i - l.count (Exit i)) low in
      omega (arith, missing-below m, given, all)

  module _ (counts : Counts t) where
    -- what the exits have not given of their shares
    pub gaps : sum_below t.width (λ i. share (all_entered t l) t.width i - l.count (Exit i)) ≡ all_inside t l
    gaps =
        let (f, flow, inputs) = full-flow-exists t w l.entered in
        let part : ℕ → ℕ = λ i. share (all_entered t l) t.width i in
        let left : ℕ → ℕ = λ i. l.count (Exit i) in
        let same : sum_below t.entries f ≡ all_entered t l = sum-below-same t.entries f l.entered inputs in
        let shares : sum_below t.width part ≡ all_entered t l =
        sum-below-same t.width part (λ i. sum_at t (Exit i) f)
        (λ i h. sym (exit-shares t w counts f flow i h ∙ ap (λ n. share n t.width i) same))
        ∙ full-flow-sum t w f flow ∙ same in
        let parts : sum_below t.width part ≡ sum_below t.width (λ i. part i - left i) + sum_below t.width left =
        sum-below-same t.width part (λ i. (part i - left i) + left i)
        (λ i h. let k = (bounded t w counts l sound).counts i h in omega (arith, k))
        ∙ sum-below-plus t.width (λ i. part i - left i) left in
        omega (arith, shares, parts, nobody-lost t w l sound)

    pub missing : names_missing t l ≡ all_inside t l
    missing = missing-below (all_entered t l) ∙ gaps

    pub near-shares : IsNearShares t l
    near-shares i h = (
      (bounded t w counts l sound).counts i h,
      omega (arith, gaps, sum-below-part t.width i (λ j. share (all_entered t l) t.width j - l.count (Exit j)) h),
    )

    -- two shares differ by at most one
    two-shares : (m i j : ℕ) → i < t.width → j < t.width → share m t.width i ≤ share m t.width j + 1
    two-shares m i j h k =
        let spread : t.width * (share m t.width j + 1) ≡ t.width * share m t.width j + t.width = omega arith in
        grind (arith, (name-below m t.width i (share m t.width j + 1) h).0, least m t.width j (share m t.width j) k)

    pub smooth : IsSmooth (all_inside t l + 1) t l
    smooth i j h k = omega (arith, near-shares i h, near-shares j k, two-shares (all_entered t l) i j h k)

-- what the laws say
pub ruleset gap_laws = (missing, near-shares, smooth)
