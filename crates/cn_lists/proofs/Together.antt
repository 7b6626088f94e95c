-- One step of a party, whose tokens all pass the end of a wire together: by an exit all have left, and by a balancer
-- once they have left from its two outputs.
use Rattle.cn_lists.proofs.Common.{◌≡◌, ℕ, zero, suc, ◌+◌, ◌-◌, ◌*◌, ◌%◌, ◌<◌, ◌≤◌, ◌==◌, inl, inr, List, [], ◌∷◌, ◌++◌, count_by, length, refl, sym, ap, ◌∙◌, subst, arith, cond, append-nil, length-append, Balancer, Exit, Grant, Start, StoodInState, View, append_assoc, base, cases_eq, cases_lt, name_of, on, output_wire, sum_by-append, sum_by-cons, times_in, every_second, AreTheirs, HaveLeft, GoTogether, grants_out, grants-kept, grants-left, grants-many, ◌≢◌}
use Rattle.cn_lists.proofs.Dealt.{as-before, else-so, empty-so, forward, kin-so, once-so, onto, stood-so, wires-so}
use Rattle.cn_lists.proofs.Groups.{length-dealt, sum-dealt}

-- ---- grants

-- the clients of tokens that leave, each as often
clients-out : (width less i n : ℕ) (tokens : List (ℕ × ℕ)) (client : ℕ)
    → count_by (λ g. g.client == client) (grants_out width less i n tokens) ≡ count_by (λ e. e.1 == client) tokens
unfolding grants_out
clients-out width less i n [] client = refl
clients-out width less i n (e ∷ rest) client =
    let one : Grant = record { client = e.1; exit = i; visit = n; name = name_of width i n - less } in
    omega (
      arith,
      clients-out width less i (n + 1) rest client,
      sum_by-cons (λ (g : Grant). cond (g.client == client) 1 0) one (grants_out width less i (n + 1) rest),
      sum_by-cons (λ (x : ℕ × ℕ). cond (x.1 == client) 1 0) e rest,
    )

-- grants for two halves are grants for all
theirs-both : (q : ℕ) (es : List (ℕ × ℕ)) (more most : List Grant) → q < 2 → AreTheirs (every_second (1 - q) es) more
    → AreTheirs (every_second q es) most → AreTheirs es (more ++ most)
theirs-both q es more most low one two = record {
  as_many = omega (arith, length-append more most, one.as_many, two.as_many, length-dealt q es low);
  as_often = λ client. omega (
    arith,
    sum_by-append (λ (g : Grant). cond (g.client == client) 1 0) more most,
    one.as_often client,
    two.as_often client,
    sum-dealt (λ (e : ℕ × ℕ). cond (e.1 == client) 1 0) q es low,
  );
}

-- ---- a party that left

-- all who stood on a wire have left
abbrev pub HasLeft : View → View → ℕ → Type 0
HasLeft v w wire = HaveLeft v w wire (on v.tokens wire)

-- nobody stood there
pub nobody-left : (v : View) (wire : ℕ) → on v.tokens wire ≡ [] → HasLeft v v wire
nobody-left v wire none =
    let in_state : 0 < length (on v.tokens wire) → StoodInState v.start v =
    λ some. absurd (omega (arith, some, ap length none)) in
    let theirs : AreTheirs (on v.tokens wire) [] = rw none (record { as_many = refl; as_often = λ client. refl }) in
    let grants : (more : List Grant) × (v.grants ≡ v.grants ++ more) × AreTheirs (on v.tokens wire) more =
    ([], sym (append-nil v.grants), theirs) in
    search

-- a view that stood in a state does so too once they have left
still-stands : {start : Start} {v w : View} {wire : ℕ} → HasLeft v w wire → v.start ≡ start → StoodInState start v
    → StoodInState start w
still-stands {start} {v} {w} {wire} left of stood = elim (cases_lt 0 (length (on v.tokens wire))) [
  | inl l ↦ subst (λ (s : Start). StoodInState s w) of (left.in_state l)
  | inr l ↦ subst (StoodInState start) (sym (left.nobody (omega (arith, l)))) stood
]

-- ---- at an exit

module _ {start : Start} {wire i n : ℕ} {v w : View} (go : GoTogether start wire (Exit i) n v w) where
  pub grants-by : w.grants ≡ v.grants ++ grants_out start.network.table.width (base start) i n (on v.tokens wire)
  grants-by = ap (λ (x : View). x.grants) go.went ∙ grants-left i n (on v.tokens wire) v
      ∙ ap (λ (s : Start). v.grants ++ grants_out s.network.table.width (base s) i n (on v.tokens wire)) go.of

  pub left-by : HasLeft v w wire
  left-by =
      let like = kin-so go in
      let tokens = on v.tokens wire in
      let empty = empty-so go in
      let others = as-before go in
      let theirs : AreTheirs tokens (grants_out start.network.table.width (base start) i n tokens) =
      record { as_many = grants-many _ _ i n tokens; as_often = clients-out _ _ i n tokens } in
      let grants : (more : List Grant) × (w.grants ≡ v.grants ++ more) × AreTheirs tokens more =
      (_, grants-by, theirs) in
      let in_state = subst (λ (s : Start). StoodInState s w) (sym go.of) (stood-so go) in
      let some = go.some in
      search arith

-- ---- at a balancer

-- of a view one was made in which these tokens may pass the end of a wire: nobody stands on a greater one
pub record MayPass (start : Start) (v w : View) (wire : ℕ) (tokens : List (ℕ × ℕ)) : Type 0 where
  pub of : w.start ≡ v.start
  pub loads : w.loads ≡ v.loads
  pub wires : length w.tokens ≡ length start.network.table.ends
  pub low : wire < length start.network.table.ends
  pub once : (token : ℕ) → times_in w.tokens token ≤ 1
  pub are : on w.tokens wire ≡ tokens
  pub above : (u : ℕ) → wire < u → on w.tokens u ≡ []

one-second : (es : List (ℕ × ℕ)) → length es ≡ 1 → (every_second 0 es ≡ es) × (every_second 1 es ≡ [])
unfolding every_second
one-second [] one = absurd (omega (arith, one))
one-second (e ∷ []) one = (refl, refl)
one-second (e ∷ d ∷ rest) one = absurd (omega (arith, one))

module _ {start : Start} {wire b n : ℕ} {v w : View} (go : GoTogether start wire (Balancer b) n v w) where
  abbrev out : ℕ → ℕ
  out p = output_wire start.network.table b p

  pub grants-so : w.grants ≡ v.grants
  grants-so = ap (λ (x : View). x.grants) go.went ∙ grants-kept b n (on v.tokens wire) v

  inside : start.network.table.entries + 2 * b + 1 < length start.network.table.ends
  inside = omega (arith, go.stands, go.formed.wires)

  -- nobody stands above the second output
  above-second : (u : ℕ) → out 1 < u → on w.tokens u ≡ []
  above-second u more =
      else-so go u (λ e. omega (arith, e, more, forward go)) (λ e. omega (arith, e, more)) (λ e. omega (arith, e, more))
      ∙ go.above u (omega (arith, more, forward go))

  -- those of the second output
  pub second-next : (q : ℕ) → q ≡ n % 2 → (u : ℕ) → u ≡ out 1
      → MayPass start v w u (every_second (1 - q) (on v.tokens wire))
  second-next q is u to = record {
    of = (kin-so go).start;
    loads = (kin-so go).loads;
    wires = wires-so go;
    low = omega (arith, to, inside);
    once = once-so go;
    are = ap (on w.tokens) to ∙ onto go 1 (1 - q) (omega arith) (omega (arith, is));
    above = λ x more. above-second x (omega (arith, more, to));
  }

  module _ {mid : View} {o u : ℕ} (one : HasLeft w mid o) (to1 : o ≡ out 1) (to0 : u ≡ out 0) where
    first-are : (q : ℕ) → q ≡ n % 2 → on mid.tokens u ≡ every_second q (on v.tokens wire)
    first-are q is =
        one.others u (λ e. omega (arith, e, to0, to1)) ∙ ap (on w.tokens) to0
        ∙ onto go 0 q (omega arith) (omega (arith, is))

    -- once they have left, those of the first
    pub first-next : ((token : ℕ) → times_in mid.tokens token ≤ 1) → (q : ℕ) → q ≡ n % 2
        → MayPass start v mid u (every_second q (on v.tokens wire))
    first-next once q is = record {
      of = one.start ∙ (kin-so go).start;
      loads = one.loads ∙ (kin-so go).loads;
      wires = one.wires ∙ wires-so go;
      low = omega (arith, to0, inside);
      once = once;
      are = first-are q is;
      above = λ x more. elim (cases_eq x o) [
        | inl e ↦ rw e one.empty
        | inr other ↦ one.others x other ∙ above-second x (omega (arith, more, to0, to1, other))
      ];
    }

    -- once those have left too, all have
    pub left-so : {x : View} → HasLeft mid x u → HasLeft v x wire
    left-so {x} two =
        let like = kin-so go in
        let tokens = on v.tokens wire in
        let (more, grew, theirs) = one.grants in
        let (most, grew2, theirs2) = two.grants in
        let first = subst (λ (es : List (ℕ × ℕ)). AreTheirs es more) (second-next (n % 2) refl o to1).are theirs in
        let second = subst (λ (es : List (ℕ × ℕ)). AreTheirs es most) (first-are (n % 2) refl) theirs2 in
        let begun : mid.start ≡ start = one.start ∙ like.start ∙ go.of in
        let empty = two.others wire (λ e. omega (arith, e, to0, forward go))
        ∙ one.others wire (λ e. omega (arith, e, to1, forward go)) ∙ empty-so go in
        let others : (y : ℕ) → y ≢ wire → on x.tokens y ≡ on v.tokens y = λ y other. elim (cases_eq y u) [
          | inl e ↦ rw e (two.empty ∙ sym (go.above u (omega (arith, to0, forward go))))
          | inr not0 ↦ two.others y not0 ∙ elim (cases_eq y o) [
            | inl e ↦ rw e (one.empty ∙ sym (go.above o (omega (arith, to1, forward go))))
            | inr not1 ↦ one.others y not1 ∙ else-so go y other (λ e. not0 (e ∙ sym to0)) (λ e. not1 (e ∙ sym to1))
          ]
        ] in
        let grew-both = grew2 ∙ (λ k. (grew ∙ (λ j. grants-so j ++ more)) k ++ most) ∙ append_assoc _ more most in
        let grants : (all : List Grant) × (x.grants ≡ v.grants ++ all) × AreTheirs tokens all =
        (more ++ most, grew-both, theirs-both (n % 2) tokens more most (omega arith) first second) in
        let in_state = subst (λ (s : Start). StoodInState s x) (sym go.of)
        (still-stands two begun (still-stands one (like.start ∙ go.of) (stood-so go))) in
        let some = go.some in
        search arith

  -- a token by itself goes on to an output: once it has left from there, it has left
  pub goes-by-itself : length (on v.tokens wire) ≡ 1 → (q : ℕ) → q ≡ n % 2 → (u : ℕ) → u ≡ out q
      → MayPass start v w u (on v.tokens wire) × ((x : View) → HasLeft w x u → HasLeft v x wire)
  goes-by-itself one zero is u to =
      let all = one-second (on v.tokens wire) one in
      let nobody = nobody-left w (out 1) ((second-next zero is _ refl).are ∙ all.1) in (
        subst (MayPass start v w u) all.0 (first-next nobody refl to (once-so go) zero is),
        λ x left. left-so nobody refl to left,
      )
  goes-by-itself one (suc zero) is u to =
      let all = one-second (on v.tokens wire) one in (
        subst (MayPass start v w u) all.0 (second-next 1 is u to),
        λ x left. left-so left to refl (nobody-left x (out 0) (first-are left to refl 1 is ∙ all.1)),
      )
  goes-by-itself one (suc (suc q)) is u to = absurd (omega (arith, is))
