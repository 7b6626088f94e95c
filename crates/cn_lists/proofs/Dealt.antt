-- What a sweep of a wire makes of a view: its tokens go by turns to the outputs of a balancer, or are gone.
use Rattle.cn_lists.proofs.Common.{◌≡◌, ◌≢◌, ℕ, zero, suc, ◌+◌, ◌*◌, ◌%◌, ◌<◌, ◌≤◌, List, [], ◌∷◌, ◌++◌, length, refl, sym, ap, ◌∙◌, subst, arith, append-nil, Balancer, End, Exit, LeadsOn, Lists, Stands, Start, StoodInState, Table, View, after_step, append_assoc, eq-eqb, last_on, ne_eqb, on, output_wire, times_in, every_second, others-on, GoTogether, IsKin, kin-by, after_steps, MayGo, lists-after-on, rest-may, state-after, without}

-- on its wire stands only the token
pub on-own : (token client wire u : ℕ) → wire ≡ u → last_on token client wire u ≡ (token, client) ∷ []
on-own token client wire u same = rw (eq-eqb wire u same) refl

pub off-own : (token client wire u : ℕ) → wire ≢ u → last_on token client wire u ≡ []
off-own token client wire u other = rw (ne_eqb wire u other) refl

-- what comes to a wire of a token that goes by an end with this number
abbrev lands : Table → End → ℕ → ℕ × ℕ → ℕ → List (ℕ × ℕ)
lands t (Balancer b) n e u = last_on e.0 e.1 (output_wire t b (n % 2)) u
lands t (Exit i) n e u = []

module _ {start : Start} {wire : ℕ} {end : End} {n : ℕ} {v w : View} (go : GoTogether start wire end n v w) where
  abbrev t : Table
  t = start.network.table

  abbrev tokens : List (ℕ × ℕ)
  tokens = on v.tokens wire

  abbrev Goes : View → List (ℕ × ℕ) → Type 0
  Goes x es = MayGo start wire end go.formed go.low go.ends go.stands x es

  -- the first of them goes: other wires keep what they have
  one-on : (m : ℕ) (e : ℕ × ℕ) (rest : List (ℕ × ℕ)) (x : View) → Goes x (e ∷ rest) → (u : ℕ) → u ≢ wire
      → on (after_step e.0 e.1 end m x).tokens u ≡ on x.tokens u ++ lands t end m e u
  one-on m e rest x may u other = by end go.stands
    where
      kept : without e.0 (on x.tokens u) ≡ on x.tokens u
      kept = others-on x.tokens e.0 e.1 wire rest may.once (omega (arith, go.low, may.wires)) may.on_wire u other

      by : (to : End) → Stands t to → on (after_step e.0 e.1 to m x).tokens u ≡ on x.tokens u ++ lands t to m e u
      by (Exit i) stands = lists-after-on x.tokens e.0 (λ _. []) (λ _ _. refl) u ∙ (λ k. kept k ++ [])
      by (Balancer b) stands =
          let to : ℕ = output_wire x.start.network.table b (m % 2) in
          let same : to ≡ output_wire t b (m % 2) = ap (λ (s : Start). output_wire s.network.table b (m % 2)) may.of in
          lists-after-on x.tokens e.0 (last_on e.0 e.1 to)
          (λ y past. off-own e.0 e.1 to y (λ at. omega (arith, at, past, same, stands, go.formed.wires, may.wires))) u
          ∙ (λ i. kept i ++ last_on e.0 e.1 (same i) u)

  -- what comes to a wire of tokens that go with the numbers from m on
  pub comes : ℕ → List (ℕ × ℕ) → ℕ → List (ℕ × ℕ)
  comes m [] u = []
  comes m (e ∷ rest) u = lands t end m e u ++ comes (m + 1) rest u

  all-may : (m : ℕ) (es : List (ℕ × ℕ)) (x : View) → Goes x es → Goes (after_steps end m es x) []
  unfolding after_steps
  all-may m [] x may = may
  all-may m (e ∷ rest) x may =
      all-may (m + 1) rest _ (rest-may start wire end go.formed go.low go.ends go.stands m x e.0 e.1 rest may)

  all-on : (m : ℕ) (es : List (ℕ × ℕ)) (x : View) → Goes x es → (u : ℕ) → u ≢ wire
      → on (after_steps end m es x).tokens u ≡ on x.tokens u ++ comes m es u
  unfolding after_steps comes
  all-on m [] x may u other = sym (append-nil (on x.tokens u))
  all-on m (e ∷ rest) x may u other =
      all-on (m + 1) rest _ (rest-may start wire end go.formed go.low go.ends go.stands m x e.0 e.1 rest may) u other
      ∙ ap (λ (es : List (ℕ × ℕ)). es ++ comes (m + 1) rest u) (one-on m e rest x may u other)
      ∙ append_assoc (on x.tokens u) (lands t end m e u) (comes (m + 1) rest u)

  -- what the view is then
  may : Goes v tokens
  may = record { on_wire = refl; once = go.once; wires = go.wires; of = go.of }

  gone : Goes (after_steps end n tokens v) []
  gone = all-may n tokens v may

  lists : w.tokens ≡ (after_steps end n tokens v).tokens
  lists = ap (λ (x : View). x.tokens) go.went

  pub once-so : (k : ℕ) → times_in w.tokens k ≤ 1
  once-so k = subst (λ (ls : Lists). times_in ls k ≤ 1) (sym lists) (gone.once k)

  pub wires-so : length w.tokens ≡ length t.ends
  wires-so = ap length lists ∙ gone.wires

  pub empty-so : on w.tokens wire ≡ []
  empty-so = ap (λ (ls : Lists). on ls wire) lists ∙ gone.on_wire

  pub others-so : (u : ℕ) → u ≢ wire → on w.tokens u ≡ on v.tokens u ++ comes n tokens u
  others-so u other = ap (λ (ls : Lists). on ls u) lists ∙ all-on n tokens v may u other

  pub kin-so : IsKin v w
  kin-so = let like = kin-by end n tokens v in rw go.went (assumption like)

  pub stood-so : StoodInState start w
  stood-so = state-after _ _ _ _ go.by.step

-- by a balancer they go to its outputs
module _ {start : Start} {wire b n : ℕ} {v w : View} (go : GoTogether start wire (Balancer b) n v w) where
  abbrev out : ℕ → ℕ
  out p = output_wire start.network.table b p

  comes-to : (p q m : ℕ) (es : List (ℕ × ℕ)) → p < 2 → q ≡ (m + p) % 2 → comes go m es (out p) ≡ every_second q es
  unfolding comes every_second
  comes-to p q m [] low is = refl
  comes-to p zero m (e ∷ rest) low is =
      (λ i. on-own e.0 e.1 (out (m % 2)) (out p) (omega (arith, is, low)) i
      ++ comes-to p 1 (m + 1) rest low (omega (arith, is)) i)
  comes-to p (suc zero) m (e ∷ rest) low is =
      (λ i. off-own e.0 e.1 (out (m % 2)) (out p) (λ at. omega (arith, is, low, at)) i
      ++ comes-to p 0 (m + 1) rest low (omega (arith, is)) i)
  comes-to p (suc (suc q)) m (e ∷ rest) low is = absurd (omega (arith, is))

  comes-else : (m : ℕ) (es : List (ℕ × ℕ)) (u : ℕ) → u ≢ out 0 → u ≢ out 1 → comes go m es u ≡ []
  unfolding comes
  comes-else m [] u first second = refl
  comes-else m (e ∷ rest) u first second =
      (λ i. off-own e.0 e.1 (out (m % 2)) u (λ at. omega (arith, at, first, second)) i
      ++ comes-else (m + 1) rest u first second i)

  pub forward : wire < start.network.table.entries + 2 * b
  forward = subst (LeadsOn start.network.table wire) go.ends (go.formed.forward wire go.low)

  -- on each output, where nobody stood, every second stands, and on no other wire
  pub onto : (p q : ℕ) → p < 2 → q ≡ (n + p) % 2 → on w.tokens (out p) ≡ every_second q (on v.tokens wire)
  onto p q low is = others-so go (out p) (λ e. omega (arith, e, forward))
      ∙ (λ i. go.above (out p) (omega (arith, forward)) i ++ comes-to p q n (on v.tokens wire) low is i)

  pub else-so : (u : ℕ) → u ≢ wire → u ≢ out 0 → u ≢ out 1 → on w.tokens u ≡ on v.tokens u
  else-so u other first second = others-so go u other
      ∙ (λ i. on v.tokens u ++ comes-else n (on v.tokens wire) u first second i) ∙ append-nil (on v.tokens u)

-- by an exit they are gone
module _ {start : Start} {wire i n : ℕ} {v w : View} (go : GoTogether start wire (Exit i) n v w) where
  comes-nowhere : (m : ℕ) (es : List (ℕ × ℕ)) (u : ℕ) → comes go m es u ≡ []
  unfolding comes
  comes-nowhere m [] u = refl
  comes-nowhere m (e ∷ rest) u = comes-nowhere (m + 1) rest u

  pub as-before : (u : ℕ) → u ≢ wire → on w.tokens u ≡ on v.tokens u
  as-before u other = others-so go u other
      ∙ (λ k. on v.tokens u ++ comes-nowhere n (on v.tokens wire) u k) ∙ append-nil (on v.tokens u)
