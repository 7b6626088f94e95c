-- In each state as many names are missing as clients are inside.
use Rattle.cn_floor.proofs.Common.{◌≡◌, ℕ, zero, suc, ◌+◌, ◌-◌, ◌/◌, ◌%◌, ◌<◌, ◌≤◌, ◌&&◌, cond, eqb, get_or, map, sym, refl, ap, ◌∙◌, arith, mod_below, Exit, Grant, IsStart, Ledger, Start, Table, View, base, count_in, get_elem?, given_in, le-ltb, name_of, nat_tests, once_below, some, sum-below-same, sum-below-zero, times, share, sum_below, exit_of-name_of, name-below, name_of-exit_of, sum-by-same, times-map, times_given, missing, once-there, turned, ledger_at, FloorState, KeepsRule}
use Rattle.cn_floor.specs.Missing.{came_at, inside_at, names_missing_at, times_granted}
use Rattle.cn_floor.proofs.AtClose.Ends.{tight-before}
use Rattle.cn_floor.proofs.InStates.Bounds.{all-came}
use Rattle.cn_floor.proofs.InStates.Names.{made, no-grant}
use Rattle.cn_floor.proofs.InStates.Totals.{total_same}

-- a sum in two parts
sum-below-both : (a b : ℕ) (f : ℕ → ℕ) → sum_below (a + b) f ≡ sum_below a f + sum_below b (λ k. f (a + k))
unfolding sum_below
sum-below-both a zero f = let e : a + 0 ≡ a = omega arith in ap (λ (n : ℕ). sum_below n f) e ∙ omega arith
sum-below-both a (suc b) f =
    let e : a + suc b ≡ suc (a + b) = omega arith in
    ap (λ (n : ℕ). sum_below n f) e ∙ omega (arith, sum-below-both a b f)

both-tests : (a b c d e f : ℕ) → (a ≡ b → (c ≡ d) × (e ≡ f)) → (c ≡ d → e ≡ f → a ≡ b) → eqb a b ≡ (eqb c d && eqb e f)
both-tests a b c d e f to from = grind (arith, nat_tests)

module _ (start : Start) (began : IsStart start) (s : FloorState) (kept : KeepsRule start s) where
  abbrev t : Table
  t = start.network.table

  abbrev l : Ledger
  l = ledger_at start s

  abbrev m : ℕ
  m = base start

  wide : 0 < t.width
  wide = omega (arith, began.network.formed.width.0)

  module _ (name : ℕ) where
    abbrev at : ℕ
    at = (m + name) % t.width

    abbrev turn : ℕ
    turn = (m + name) / t.width

    -- a lane's grants of the name are those of its exit and visit
    named-there : (id : ℕ) (v : View) → get_elem? s.views id ≡ some v
        → times name (map (λ (g : Grant). g.name) v.grants) ≡ given_in (Exit at) turn v
    named-there id v here =
        times-map (λ (g : Grant). g.name) name v.grants
        ∙ sum-by-same (λ (g : Grant). cond (eqb g.name name) 1 0) (λ (g : Grant). cond (eqb at g.exit && eqb g.visit turn) 1 0)
        v.grants no-grant (λ j low.
        let g : Grant = get_or v.grants j no-grant in
        let (narrow, is) = kept.sound.named g.client g.exit g.visit (g.name + m) (made start s kept id v here j low) in
        let its = exit_of-name_of t.width g.exit g.visit narrow in
        ap {B = ℕ} (λ b. cond b 1 0) (both-tests g.name name at g.exit g.visit turn
        (λ e. let whole : m + name ≡ name_of t.width g.exit g.visit = omega (arith, e, is) in
        (ap (λ (n : ℕ). n % t.width) whole ∙ its.0, sym (ap (λ (n : ℕ). n / t.width) whole ∙ its.1)))
        (λ e f. let same : name_of t.width g.exit g.visit ≡ name_of t.width at turn = λ i. name_of t.width (sym e i) (f i) in
        omega (arith, is, same, name_of-exit_of t.width (m + name)))))

    -- so the name is granted as often as the ledger gives it
    as-given : times_granted s name ≡ times_given t l (m + name)
    as-given =
        let low : at < t.width = mod_below (m + name) t.width wide in
        let was : count_in t start.words (Exit at) ≡ share m t.width at = (tight-before start began).counts at low in
        let late : share m t.width at ≤ turn =
        turned _ _ _ _ (name-below m t.width at turn low).0 (omega (arith, name_of-exit_of t.width (m + name))) in
        let none : ◌≡◌ {A = ℕ} (once_below (count_in t start.words (Exit at)) turn) 0 =
        ap {B = ℕ} (λ b. cond b 1 0) (le-ltb turn (count_in t start.words (Exit at)) (omega (arith, was, late))) in
        omega (
          arith,
          none,
          total_same (λ (v : View). times name (map (λ (g : Grant). g.name) v.grants)) (given_in (Exit at) turn) s.views named-there,
        )

  -- the names of the clients that came before the floor began were given
  given-before : (n : ℕ) → n < m → 1 ≤ times_given t l n
  given-before n less =
      let low : n % t.width < t.width = mod_below n t.width wide in
      let was : count_in t start.words (Exit (n % t.width)) ≡ share m t.width (n % t.width) =
      (tight-before start began).counts (n % t.width) low in
      let is : name_of t.width (n % t.width) (n / t.width) < m = omega (arith, less, name_of-exit_of t.width n) in
      let early = (name-below m t.width (n % t.width) (n / t.width) low).1 is in
      omega (arith, once-there (count_in t start.words (Exit (n % t.width))) (n / t.width) (omega (arith, was, early)))

  pub missing-at : names_missing_at start s ≡ inside_at start s
  missing-at =
      let net = began.network in
      let gap : ℕ → ℕ = λ n. 1 - times_given t l n in
      let whole = missing t net.formed l kept.sound net.counts in
      let all = all-came start s record { began = began; rule = kept } in
      let cut : sum_below (m + came_at start s) gap ≡ inside_at start s =
      ap (λ (n : ℕ). sum_below n gap) (omega (arith, all)) ∙ whole in
      let before : sum_below m gap ≡ 0 =
      sum-below-same m gap (λ _. 0) (λ n less. let k = given-before n less in omega (arith, k)) ∙ sum-below-zero m (λ _. 0) (λ _. refl) in
      let since : names_missing_at start s ≡ sum_below (came_at start s) (λ k. gap (m + k)) =
      sum-below-same (came_at start s) (λ name. 1 - times_granted s name) (λ k. gap (m + k))
      (λ name less. ap (λ (n : ℕ). 1 - n) (as-given name)) in
      omega (arith, cut, before, since, sum-below-both m (came_at start s) gap)
