-- No count is more than the clients that came, and no name is one of an earlier floor. Where one lane has the whole
-- quota, the next number is the count of its own.
use Rattle.cn_floor.proofs.Common.{◌≡◌, ℕ, ◌+◌, ◌<◌, ◌≤◌, cond, [], length, sum_by, refl, subst, sym, ap, ◌∙◌, arith, End, Exit, HoldsAt, Stands, Start, State, Table, View, base, clients_in, count_in, end_word, entered_in, get_or, ledger_of, name_of, once_below, sum-below-part, sum-below-same, sum_below, times, share, name-below, sum-below-plus, sum-below-total, times-below, counts-few, tight, nat_tests, turned, zero, suc, ◌*◌, ◌&&◌, Bool, true, false, List, count_by, eqb, Balancer, Grant, eq-eqb, get_elem?, given_in, some, sum-below-one, sum-below-zero, count_by-le-length, Passage, own_count, once-in, levels}
use Rattle.cn_spec.proofs.CallerLemmas.{sum-below-cut}
use Rattle.cn_floor.proofs.InStates.Accounts.{no-levels}
use Rattle.cn_floor.proofs.InStates.Totals.{mine-only, part-le, total_same, total-le}
use Rattle.cn_floor.proofs.InStates.Ledgers.{count-word, entered-word}

-- the numbers below c, of those below n
below-once : (n c : ℕ) → c ≤ n → sum_below n (once_below c) ≡ c
unfolding sum_below
below-once n c h = sum-below-cut n c (λ _. 1) h ∙ each c
  where
    each : (k : ℕ) → sum_below k (λ _. 1) ≡ k
    each zero = refl
    each (suc k) = omega (arith, each k)

-- a number below n, looked for among these
found : (b : Bool) (m n : ℕ) → (b ≡ true → m < n) → sum_below n (λ k. cond (b && eqb m k) 1 0) ≡ cond b 1 0
found false m n h = sum-below-zero n (λ _. 0) (λ _. refl)
found true m n h = sum-below-one n m 1 (h refl)

-- where the numbers of those at an end are all below n, they are as many
own-of : {X : Type 0} (at : X → Bool) (number : X → ℕ) (xs : List X) (n : ℕ)
    → ((k : ℕ) → 1 ≤ count_by (λ x. at x && eqb (number x) k) xs → k < n)
    → sum_below n (λ k. count_by (λ x. at x && eqb (number x) k) xs) ≡ count_by at xs
own-of {X} at number xs n low =
    let f : ℕ → X → ℕ = λ k x. cond (at x && eqb (number x) k) 1 0 in
    sum-below-total f xs n
    ∙ total_same (λ x. sum_below n (λ k. f k x)) (λ x. cond (at x) 1 0) xs (λ i x a.
    found (at x) (number x) n (λ h.
    let one : ◌≡◌ {A = ℕ} (f (number x) x) 1 = rw (h, eq-eqb (number x) (number x) refl) refl in
    low (number x) (omega (arith, part-le (f (number x)) xs i x a))))

-- so a lane was given as many
own : (end : End) (v : View) (n : ℕ) → ((k : ℕ) → 1 ≤ given_in end k v → k < n) → sum_below n (λ k. given_in end k v) ≡ own_count end v
own (Balancer b) v n low = own-of (λ p. eqb b p.balancer) (λ p. p.number) v.passages n low
own (Exit i) v n low = own-of (λ g. eqb i g.exit) (λ g. g.visit) v.grants n low

module _ (start : Start) (s : State (Unit {0}) View) (kept : HoldsAt start s) where
  abbrev t : Table
  t = start.network.table

  -- as many came as before, and the entries of all views
  pub all-came : clients_in t s.words ≡ base start + sum_by (λ (v : View). length v.entries) s.views
  all-came =
      sum-below-same t.entries (entered_in t s.words) (λ u. entered_in t start.words u + sum_by (λ (v : View). times u v.entries) s.views)
      kept.rule.entered
      ∙ sum-below-plus t.entries (entered_in t start.words) (λ u. sum_by (λ (v : View). times u v.entries) s.views)
      ∙ ap (λ (k : ℕ). base start + k)
      (sum-below-total (λ u (v : View). times u v.entries) s.views t.entries
      ∙ total_same (λ (v : View). sum_below t.entries (λ u. times u v.entries)) (λ (v : View). length v.entries) s.views
      (λ id v at. times-below t.entries v.entries (kept.rule.accounted id v at).entries))

  pub few-came : clients_in t s.words ≤ base start + start.quota
  few-came =
      let few = total-le (λ (v : View). length v.entries) (λ (v : View). v.quota + length v.entries) s.views (λ id v at. omega arith) in
      omega (arith, all-came, kept.rule.quotas)

  -- no count is more than those that came
  pub count-few : (end : End) → Stands t end → count_in t s.words end ≤ clients_in t s.words
  count-few end stands = counts-few t kept.began.network.formed (ledger_of t start.words s.words s.views) kept.rule.sound end stands

  -- so no word is more than may come in
  pub entry-few : (entry : ℕ) → entry < t.entries → get_or s.words (1 + entry) 0 ≤ base start + start.quota
  entry-few entry low =
      omega (arith, entered-word t s.words entry low, sum-below-part t.entries entry (entered_in t s.words) low, few-came)

  pub end-few : (end : End) → Stands t end → get_or s.words (end_word t end) 0 ≤ base start + start.quota
  end-few end stands = omega (arith, count-word t s.words end stands, count-few end stands, few-came)

  -- nor is it less than the carried one
  pub count-risen : (end : End) → Stands t end → count_in t start.words end ≤ count_in t s.words end
  count-risen end stands =
      let n : ℕ = count_in t s.words end in
      let given : once_below (count_in t start.words end) n + sum_by (given_in end n) s.views ≡ once_below n n =
      kept.rule.sound.numbered end n stands in
      grind (arith, nat_tests)

  -- the next name is none of the carried ones
  pub name-later : (i : ℕ) → i < t.width → base start ≤ name_of t.width i (count_in t s.words (Exit i))
  name-later i h =
      let net = kept.began.network in
      let n : ℕ = count_in t s.words (Exit i) in
      let was = tight t net.formed net.counts (ledger_of t start.words start.words []) kept.began.carried.sound (λ u l. refl) in
      let shared : count_in t start.words (Exit i) ≡ share (base start) t.width i = was.counts i h in
      turned _ _ _ _ (name-below (base start) t.width i n h).1 (omega (arith, count-risen (Exit i) h))

  pub names-late : (end : End) → Stands t end → (n : ℕ) → count_in t s.words end ≡ n → (i : ℕ) → end ≡ Exit i
      → base start ≤ name_of t.width i n
  names-late end stands n count i is =
      subst (λ (k : ℕ). base start ≤ name_of t.width i k) (ap (count_in t s.words) (sym is) ∙ count)
      (name-later i (subst (Stands t) is stands))

  -- ---- a lane with the whole quota

  -- a lane that let nobody in was given nothing
  pub none_given : (id : ℕ) (v : View) → get_elem? s.views id ≡ some v → length v.entries ≡ 0 → (end : End) (k : ℕ) → given_in end k v ≡ 0
  none_given id v at none end k =
      let account = kept.rule.accounted id v at in
      let net = kept.began.network in
      let (level, is) = levels t net.formed start.network.depth net.deep in
      let empty = no-levels level v (omega (arith, account.all)) in
      let grants : length v.grants ≡ 0 = omega (arith, account.all) in
      let deep : start.network.depth * length v.grants ≡ 0 = ap (λ (x : ℕ). start.network.depth * x) grants ∙ omega arith in
      let passages : length v.passages ≡ 0 = omega (arith, account.walked level is) in
      by end passages grants
    where
      by : (end : End) → length v.passages ≡ 0 → length v.grants ≡ 0 → given_in end k v ≡ 0
      by (Balancer b) p g = omega (arith, count_by-le-length (λ (x : Passage). eqb b x.balancer && eqb x.number k) v.passages)
      by (Exit i) p g = omega (arith, count_by-le-length (λ (x : Grant). eqb i x.exit && eqb x.visit k) v.grants)

  pub sole : (id : ℕ) (v : View) → get_elem? s.views id ≡ some v → v.quota + length v.entries ≡ start.quota → (end : End) → Stands t end
      → count_in t s.words end ≡ count_in t start.words end + own_count end v
  sole id v at whole end stands =
      let n : ℕ = count_in t s.words end in
      let c : ℕ = count_in t start.words end in
      let mine : sum_by (λ (x : View). length x.entries) s.views ≡ length v.entries =
      mine-only (λ (x : View). length x.entries) (λ (x : View). x.quota + length x.entries) s.views id v at (λ j x a z. omega arith)
      (kept.rule.quotas ∙ sym whole) in
      let each : (k : ℕ) → once_below c k + given_in end k v ≡ once_below n k = λ k.
      let all = mine-only (given_in end k) (λ (x : View). length x.entries) s.views id v at (λ j x a z. none_given j x a z end k) mine in
      omega (arith, kept.rule.sound.numbered end k stands) in
      let low = own end v n (λ k h. once-in n k (omega (arith, each k))) in
      let sums = sum-below-same n (λ k. once_below c k + given_in end k v) (once_below n) (λ k l. each k) in
      omega (
        arith,
        sum-below-plus n (once_below c) (λ k. given_in end k v),
        below-once n n (omega arith),
        below-once n c (count-risen end stands),
      )
