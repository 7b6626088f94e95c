-- The only token of a view, on its way.
use Rattle.cn_floor.proofs.Common.{◌≡◌, ◌≢◌, ℕ, ◌%◌, ◌<◌, ◌≤◌, inl, inr, cond, eqb, List, [], ◌∷◌, ◌++◌, length, sum_by, refl, sym, ap, ◌∙◌, subst, arith, nat_eq, Balancer, IsAlone, IsLetBy, IsThere, IsWellFormed, Lists, Stands, Start, Table, View, after_step, cases_eq, end_of, eq-eqb, last_on, length-map-range_with_len, ne_eqb, on, output_wire, sum-below-one, sum-below-same, times_in, when, without, mod_below, first-there, last_on-sum, OnlyPassed, PassesOn, nat_tests}
use Rattle.cn_floor.proofs.Lists.{lists-after-on}

-- on its wire stands only the token
pub on-own : (token client wire : ℕ) → last_on token client wire wire ≡ (token, client) ∷ []
on-own token client wire = rw (eq-eqb wire wire refl) refl

pub off-own : (token client wire u : ℕ) → u ≢ wire → last_on token client wire u ≡ []
off-own token client wire u other = rw (ne_eqb wire u (λ e. other (sym e))) refl

-- it stands there once
module _ (lists : Lists) (token client wire : ℕ) (is : IsAlone lists token client wire) where
  pub once-alone : (k : ℕ) → times_in lists k ≤ 1
  once-alone k =
      let f : ℕ × ℕ → ℕ = λ e. cond (nat_eq k e.0) 1 0 in
      let each = sum-below-same (length lists) (λ u. sum_by f (on lists u)) (λ u. when (eqb wire u) (f (token, client)))
      (λ u l. ap (sum_by f) (is.only u) ∙ last_on-sum token client wire u f) in
      let one : f (token, client) ≤ 1 = grind (arith, nat_tests) in
      omega (arith, each, sum-below-one (length lists) wire (f (token, client)) is.inside)

  pub there-alone : IsThere lists token client wire
  there-alone = first-there lists token client wire [] once-alone is.inside (is.only wire ∙ on-own token client wire)

  -- without it nobody is left
  pub nobody-else : (u : ℕ) → without token (on lists u) ≡ []
  nobody-else u = ap (without token) (is.only u) ∙ elim (cases_eq u wire) [
    | inl e ↦ (λ i. without token (last_on token client wire (e i))) ∙ ap (without token) (on-own token client wire)
        ∙ rw (eq-eqb token token refl) refl
    | inr d ↦ ap (without token) (off-own token client wire u d)
  ]

-- it passes a balancer
module _ (start : Start) (formed : IsWellFormed start.network.table) (v : View) (of : v.start ≡ start)
    (wires : length v.tokens ≡ length start.network.table.ends)
    (token client wire b n : ℕ) (is : IsAlone v.tokens token client wire) (ends : end_of start.network.table wire ≡ Balancer b) where
  abbrev t : Table
  t = start.network.table

  abbrev to : ℕ
  to = output_wire v.start.network.table b (n % 2)

  low : wire < length t.ends
  low = omega (arith, is.inside, wires)

  same : to ≡ output_wire t b (n % 2)
  same = ap (λ (s : Start). output_wire s.network.table b (n % 2)) of

  lands : to < length v.tokens
  lands =
      let two = mod_below n 2 (omega arith) in
      let there : b < t.balancers = subst (Stands t) ends (formed.stands wire low) in
      omega (arith, same, there, formed.wires, wires)

  pub alone-on : IsAlone (after_step token client (Balancer b) n v).tokens token client to
  alone-on =
      let long = length-map-range_with_len (λ u. without token (on v.tokens u) ++ last_on token client to u) 0 (length v.tokens) in
      let lists = lists-after-on v.tokens token (last_on token client to)
      (λ u past. off-own token client to u (λ e. omega (arith, e, past, lands))) in
      record {
        inside = omega (arith, long, lands);
        only = λ u. lists u ∙ ap (λ (es : List (ℕ × ℕ)). es ++ last_on token client to u) (nobody-else v.tokens token client wire is u);
      }

-- it changes nothing else
pub passed-on : (token client b n : ℕ) (v : View) → OnlyPassed v (after_step token client (Balancer b) n v)
passed-on token client b n v = search length-map-range_with_len

-- what passed and passes on
pub passed-more : (u v w : View) → OnlyPassed u v → OnlyPassed v w → OnlyPassed u w
passed-more u v w p q = search

-- and so on, from balancer to balancer
pub passes-more : (start : Start) (token client : ℕ) (ns : List ℕ) (wire : ℕ) (v : View) (at : ℕ) (u : View) (b n : ℕ)
    → PassesOn start token client ns wire v at u
    → end_of start.network.table at ≡ Balancer b → IsLetBy start u (after_step token client (Balancer b) n u) client (Balancer b) n
    → PassesOn start token client (ns ++ n ∷ []) wire v (output_wire start.network.table b (n % 2))
    (after_step token client (Balancer b) n u)
unfolding PassesOn
passes-more start token client [] wire v at u b n (here, stays) ends by = (
  b,
  subst (λ (x : ℕ). end_of start.network.table x ≡ Balancer b) here ends,
  subst (λ (x : View). IsLetBy start x (after_step token client (Balancer b) n x) client (Balancer b) n) stays by,
  (refl, ap (λ (x : View). after_step token client (Balancer b) n x) stays),
)
passes-more start token client (m ∷ ns) wire v at u b n (c, first, went, rest) ends by =
    (c, first, went, passes-more start token client ns _ _ at u b n rest ends by)
