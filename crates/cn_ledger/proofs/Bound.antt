-- A sound ledger against the full flow of what entered: its counts are few, and nobody is lost.
use Rattle.cn_ledger.proofs.Common.{◌≡◌, ℕ, zero, suc, ◌+◌, ◌-◌, ◌*◌, ◌/◌, ◌%◌, ◌<◌, ◌≤◌, inl, inr, cond, List, length, get_or, map, refl, ap, sym, ◌∙◌, arith, eqb, subst, add-zero, cases_eq, lt-ltb, le-ltb, nat_tests, mod_below, half, share, shares, name_of, exit_of-name_of, get-or-shares, half-mono, name-below, name_of-exit_of, row_is-shares, sum-below-same, total-where-agree, total-where-mono, total-where-zero, End, Balancer, Exit, when, sum_below, Agree, once_below, Table, is_end, sum_at, Stands, IsWellFormed, IsFullFlow, Counts, full-flow-exists, full-flow-sum, full-flow-unique, older, Ledger, put, IsSound, all_entered, IsQuiescent, IsBounded, IsTight, times_given, half-sum, sum-below-plus, count-twice, full-flow-few}
use Rattle.std.proofs.lemmas.List.FromFn.{sum_by-map-range_with_len_more, get_or-map-range_with_len, length-map-range_with_len}
use Rattle.std.specs.List.{range_with_len, sum}

pub put-entry : (t : Table) (l : Ledger) (u : ℕ) → u < t.entries → put t l u ≡ l.entered u
put-entry t l u h = rw (lt-ltb u t.entries h)

pub put-output : (t : Table) (l : Ledger) (b p : ℕ) → p < 2 → put t l (t.entries + 2 * b + p) ≡ half (l.count (Balancer b)) p
put-output t l b p h =
    let q : (t.entries + 2 * b + p - t.entries) / 2 ≡ b = omega arith in
    let r : (t.entries + 2 * b + p - t.entries) % 2 ≡ p = omega arith in
    rw (le-ltb (t.entries + 2 * b + p) t.entries (omega arith), q, r)

two_more : (f g : ℕ → ℕ) (m : ℕ) → ((u : ℕ) → u < m → f u ≤ g u) → f m ≤ g m → f (m + 1) ≤ g (m + 1) → (u : ℕ) → u < m + 2 → f u ≤ g u
two_more f g m h p q u k = grind (arith, h u)

module _ (t : Table) (w : IsWellFormed t) (l : Ledger) (sound : IsSound t l) (f : ℕ → ℕ) (flow : IsFullFlow t f)
    (inputs : Agree t.entries f l.entered) where
  -- a balancer has passed no more than the flow, if the wires before it have had no more put on them
  passed-bound : (b : ℕ) → b < t.balancers → ((u : ℕ) → u < t.entries + 2 * b → put t l u ≤ f u)
      → l.count (Balancer b) ≤ sum_at t (Balancer b) f
  passed-bound b h before =
      let m = total-where-mono (is_end (Balancer b)) t.ends (Balancer 0) (put t l) f (λ u j q. before u (older t w b u j q)) in
      omega (arith, sound.balanced (Balancer b) h)

  put-upto : (b : ℕ) → b ≤ t.balancers → (u : ℕ) → u < t.entries + 2 * b → put t l u ≤ f u
  put-upto zero h = λ u j.
      let k : u < t.entries = omega arith in
      omega (arith, put-entry t l u k, inputs u k)
  put-upto (suc b) h =
      let before = put-upto b (omega arith) in
      let c = passed-bound b (omega arith) before in
      let here = flow b (omega arith) in
      let m : t.entries + 2 * suc b ≡ (t.entries + 2 * b) + 2 = omega arith in
      rw m (two_more (put t l) f (t.entries + 2 * b) before
      (let q = rw add-zero at (put-output t l b 0 (omega arith)) in
      let k = half-mono (l.count (Balancer b)) (sum_at t (Balancer b) f) 0 c in omega (arith, here.0))
      (let q = put-output t l b 1 (omega arith) in let k = half-mono (l.count (Balancer b)) (sum_at t (Balancer b) f) 1 c in
      omega (arith, here.1)))

  -- no count is more than what the flow brings there
  pub count-at_most : (end : End) → Stands t end → l.count end ≤ sum_at t end f
  count-at_most end h =
      let s = sound.balanced end h in
      let wires = w.wires in
      let m = total-where-mono (is_end end) t.ends (Balancer 0) (put t l) f (λ u j q. put-upto t.balancers (omega arith) u (omega arith)) in
      omega arith

-- Where no token is inside, what has been put on the wires is the full flow.
module _ (t : Table) (w : IsWellFormed t) (l : Ledger) (sound : IsSound t l) (quiet : IsQuiescent t l) where
  quiet-count : (end : End) → Stands t end → l.count end ≡ sum_at t end (put t l)
  quiet-count end h =
      let s = sound.balanced end h in
      let none = total-where-agree (is_end end) t.ends (Balancer 0) l.on (λ _. 0) (λ u j q. quiet u j)
      ∙ total-where-zero (is_end end) t.ends in
      omega arith

  pub quiet-flow : IsFullFlow t (put t l)
  quiet-flow b h =
      let r = quiet-count (Balancer b) h in (
        rw add-zero at (put-output t l b 0 (omega arith)) ∙ ap (λ m. half m 0) r,
        put-output t l b 1 (omega arith) ∙ ap (λ m. half m 1) r,
      )

  -- the counts are those of any full flow of what entered
  pub quiet-same : (f : ℕ → ℕ) → IsFullFlow t f → Agree t.entries f l.entered → (end : End) → Stands t end → l.count end ≡ sum_at t end f
  quiet-same f flow inputs end h =
      let same = full-flow-unique t w (put t l) f quiet-flow flow (λ u k. put-entry t l u k ∙ sym (inputs u k)) in
      let wires = w.wires in
      quiet-count end h ∙ total-where-agree (is_end end) t.ends (Balancer 0) (put t l) f (λ u j q. same u (omega arith))

-- ---- the step property

sum-row : (f : ℕ → ℕ) (n : ℕ) → sum (map f (range_with_len 0 n)) ≡ sum_below n f
unfolding sum_below
sum-row f zero = refl
sum-row f (suc n) = rw (ap (λ (k : ℕ). sum (map f (range_with_len 0 k))) (suc-is n)
    ∙ sum_by-map-range_with_len_more (λ (y : ℕ). y) f 0 n n (omega arith)) (omega (arith, sum-row f n))
  where
    suc-is : (n : ℕ) → suc n ≡ n + 1
    suc-is n = omega arith

-- each full flow brings each exit its share of the inputs
pub exit-shares : (t : Table) → IsWellFormed t → Counts t → (f : ℕ → ℕ) → IsFullFlow t f → (i : ℕ) → i < t.width
    → sum_at t (Exit i) f ≡ share (sum_below t.entries f) t.width i
exit-shares t w counts f flow i h =
    let row : List ℕ = map (λ j. sum_at t (Exit j) f) (range_with_len 0 t.width) in
    let at : get_or row i 0 ≡ sum_at t (Exit i) f = get_or-map-range_with_len (λ j. sum_at t (Exit j) f) 0 t.width i i 0 h (omega arith) in
    let long : length row ≡ t.width = length-map-range_with_len (λ j. sum_at t (Exit j) f) 0 t.width in
    let all : sum row ≡ sum_below t.entries f = sum-row (λ j. sum_at t (Exit j) f) t.width ∙ full-flow-sum t w f flow in
    let is : row ≡ shares (sum_below t.entries f) t.width =
    row_is-shares row (counts f flow) ∙ ap (λ n. shares n (length row)) all ∙ ap (shares (sum_below t.entries f)) long in
    sym at ∙ ap (λ (xs : List ℕ). get_or xs i 0) is ∙ get-or-shares (sum_below t.entries f) t.width i h

once-given : (c v : ℕ) → 1 ≤ once_below c v → v < c
once-given c v h = grind (arith, nat_tests)

-- ---- the laws

pub bounded : (t : Table) → IsWellFormed t → Counts t → (l : Ledger) → IsSound t l → IsBounded t l
bounded t w counts l sound =
    let (f, flow, inputs) = full-flow-exists t w l.entered in
    record {
      passes = λ g within same b h. count-at_most t w l sound g within same (Balancer b) h;
      counts = λ i h. count i h f flow inputs;
      visits = λ i v h g. visit i v h g f flow inputs;
      names = λ c i v name g.
          let (h, e) = sound.named c i v name g in
          rw e (visit i v h (let k = sound.once c i v name in omega arith) f flow inputs);
    }
  where
    count : (i : ℕ) → i < t.width → (f : ℕ → ℕ) → IsFullFlow t f → Agree t.entries f l.entered
        → l.count (Exit i) ≤ share (all_entered t l) t.width i
    count i h f flow inputs =
        let most = count-at_most t w l sound f flow inputs (Exit i) h in
        let same : sum_below t.entries f ≡ all_entered t l = sum-below-same t.entries f l.entered inputs in
        let even : sum_at t (Exit i) f ≡ share (all_entered t l) t.width i =
        exit-shares t w counts f flow i h ∙ ap (λ n. share n t.width i) same in
        rw even at most

    visit : (i v : ℕ) → i < t.width → 1 ≤ l.given (Exit i) v → (f : ℕ → ℕ) → IsFullFlow t f → Agree t.entries f l.entered
        → name_of t.width i v < all_entered t l
    visit i v h g f flow inputs =
        let most = count i h f flow inputs in
        let under : v < l.count (Exit i) = once-given (l.count (Exit i)) v (rw (sound.numbered (Exit i) v h) at g) in
        (name-below (all_entered t l) t.width i v h).0 (omega arith)

pub tight : (t : Table) → IsWellFormed t → Counts t → (l : Ledger) → IsSound t l → IsQuiescent t l → IsTight t l
tight t w counts l sound quiet =
    let flow = quiet-flow t w l sound quiet in
    let same : sum_below t.entries (put t l) ≡ all_entered t l = sum-below-same t.entries (put t l) l.entered (put-entry t l) in
    record {
      counts = λ i h. count i h flow same;
      names = λ name. given name flow same;
      held = λ name below. holder name below flow same;
      only = λ c i v name g.
          let (h, e) = sound.named c i v name g in
          let x = exit_of-name_of t.width i v h in
          ((bounded t w counts l sound).names c i v name g, ap (λ n. n % t.width) e ∙ x.0, ap (λ n. n / t.width) e ∙ x.1);
      passes = λ f g inputs b h. quiet-same t w l sound quiet f g inputs (Balancer b) h;
    }
  where
    count : (i : ℕ) → i < t.width → IsFullFlow t (put t l) → sum_below t.entries (put t l) ≡ all_entered t l
        → l.count (Exit i) ≡ share (all_entered t l) t.width i
    count i h flow same = quiet-count t w l sound quiet (Exit i) h ∙ exit-shares t w counts (put t l) flow i h
        ∙ ap (λ n. share n t.width i) same

    same-once : (c v m n : ℕ) → (v < c → n < m) → (n < m → v < c) → once_below c v ≡ once_below m n
    same-once c v m n to from = grind (arith, nat_tests)

    given : (name : ℕ) → IsFullFlow t (put t l) → sum_below t.entries (put t l) ≡ all_entered t l
        → times_given t l name ≡ once_below (all_entered t l) name
    given name flow same =
        let (least, most) = w.width in
        let h : name % t.width < t.width = mod_below name t.width (omega arith) in
        let below = name-below (all_entered t l) t.width (name % t.width) (name / t.width) h in
        let is : name_of t.width (name % t.width) (name / t.width) ≡ name = name_of-exit_of t.width name in
        sound.numbered (Exit (name % t.width)) (name / t.width) h
        ∙ ap (λ n. once_below n (name / t.width)) (count (name % t.width) h flow same)
        ∙ same-once (share (all_entered t l) t.width (name % t.width)) (name / t.width) (all_entered t l) name
        (λ k. rw is at (below.0 k)) (λ k. below.1 (rw is k))

    holder : (name : ℕ) → name < all_entered t l → IsFullFlow t (put t l) → sum_below t.entries (put t l) ≡ all_entered t l
        → (c : ℕ) × ((d : ℕ) → l.granted d (name % t.width) (name / t.width) name ≡ when (eqb c d) 1)
    holder name below flow same =
        let (least, most) = w.width in
        let h : name % t.width < t.width = mod_below name t.width (omega arith) in
        let is : name_of t.width (name % t.width) (name / t.width) ≡ name = name_of-exit_of t.width name in
        let one : once_below (all_entered t l) name ≡ 1 = ap {B = ℕ} (λ b. cond b 1 0) (lt-ltb name (all_entered t l) below) in
        let here : times_given t l name ≡ 1 = given name flow same ∙ one in
        let (c, g) = sound.owned (name % t.width) (name / t.width) h (omega arith) in (
          c,
          λ d. grind (
            arith,
            nat_tests,
            g,
            sound.once d (name % t.width) (name / t.width) name,
            sound.distinct c d (name % t.width) (name / t.width),
          ),
        )

-- each visit is given once at most
given-most : (t : Table) (l : Ledger) → IsSound t l → (i v : ℕ) → i < t.width → l.given (Exit i) v ≤ 1
given-most t l sound i v h = grind (arith, nat_tests, sound.numbered (Exit i) v h)

-- two grants of one name are one grant
pub names-differ : (t : Table) (l : Ledger) → IsSound t l → (c d i j u v a b : ℕ) → 1 ≤ l.granted c i u a → 1 ≤ l.granted d j v b → a ≡ b
    → (c ≡ d) × (i ≡ j) × (u ≡ v)
names-differ t l sound c d i j u v a b g h e =
    let (li, na) = sound.named c i u a g in
    let (lj, nb) = sound.named d j v b h in
    let x = exit_of-name_of t.width i u li in
    let y = exit_of-name_of t.width j v lj in
    let same : name_of t.width i u ≡ name_of t.width j v = sym na ∙ e ∙ nb in
    let ij : i ≡ j = sym x.0 ∙ ap (λ n. n % t.width) same ∙ y.0 in
    let uv : u ≡ v = sym x.1 ∙ ap (λ n. n / t.width) same ∙ y.1 in
    let g2 : 1 ≤ l.granted c i u (name_of t.width i u) = subst (λ n. 1 ≤ l.granted c i u n) na g in
    let h2 : 1 ≤ l.granted d i u (name_of t.width i u) = rw (ij, uv) (subst (λ n. 1 ≤ l.granted d j v n) nb h) in
    let few = given-most t l sound i u li in
    (elim (cases_eq c d) [ inl q ↦ q | inr n ↦ absurd (let k = sound.distinct c d i u n in omega arith) ], ij, uv)

-- each grant was made once
pub granted-once : (t : Table) (l : Ledger) → IsSound t l → (c i v name : ℕ) → 1 ≤ l.granted c i v name → l.granted c i v name ≡ 1
granted-once t l sound c i v name g =
    let (h, e) = sound.named c i v name g in
    omega (arith, sound.once c i v name, given-most t l sound i v h)

-- Counts are few, and nobody is lost.

pub counts-few : (t : Table) → IsWellFormed t → (l : Ledger) → IsSound t l → (end : End) → Stands t end → l.count end ≤ all_entered t l
counts-few t w l sound end h =
    let (f, flow, inputs) = full-flow-exists t w l.entered in
    let same : sum_below t.entries f ≡ all_entered t l = sum-below-same t.entries f l.entered inputs in
    omega (arith, count-at_most t w l sound f flow inputs end h, full-flow-few t w f flow end h)

-- what has been put on the wires is what came in and what passed the balancers
put-sum : (t : Table) (l : Ledger) (n : ℕ) → n ≤ t.balancers
    → sum_below (t.entries + 2 * n) (put t l) ≡ all_entered t l + sum_below n (λ b. l.count (Balancer b))
unfolding sum_below
put-sum t l zero k =
    let z : t.entries + 2 * 0 ≡ t.entries = omega arith in
    rw z (omega (arith, sum-below-same t.entries (put t l) l.entered (put-entry t l)))
put-sum t l (suc n) k =
    let before = put-sum t l n (omega arith) in
    let first : put t l (t.entries + 2 * n) ≡ half (l.count (Balancer n)) 0 = let e : t.entries + 2 * n + 0 ≡ t.entries + 2 * n =
    omega arith in rw e at (put-output t l n 0 (omega arith)) in
    let second : put t l (suc (t.entries + 2 * n)) ≡ half (l.count (Balancer n)) 1 =
    let e : t.entries + 2 * n + 1 ≡ suc (t.entries + 2 * n) = omega arith in rw e at (put-output t l n 1 (omega arith)) in
    let m : t.entries + 2 * suc n ≡ suc (suc (t.entries + 2 * n)) = omega arith in
    let two : sum_below (suc (suc (t.entries + 2 * n))) (put t l)
    ≡ sum_below (t.entries + 2 * n) (put t l) + put t l (t.entries + 2 * n) + put t l (suc (t.entries + 2 * n)) = refl in
    rw m (omega (arith, half-sum (l.count (Balancer n))))

-- who left and who stands on a wire are all that came in
pub nobody-lost : (t : Table) → IsWellFormed t → (l : Ledger) → IsSound t l
    → sum_below t.width (λ i. l.count (Exit i)) + sum_below (length t.ends) l.on ≡ all_entered t l
nobody-lost t w l sound =
    let there = count-twice t t.ends l.on w.stands in
    let came = count-twice t t.ends (put t l) w.stands in
    let balancers : sum_below t.balancers (λ b. l.count (Balancer b)) + sum_below t.balancers (λ b. sum_at t (Balancer b) l.on)
    ≡ sum_below t.balancers (λ b. sum_at t (Balancer b) (put t l)) =
    sym (sum-below-plus t.balancers (λ b. l.count (Balancer b)) (λ b. sum_at t (Balancer b) l.on))
    ∙ sum-below-same t.balancers _ _ (λ b h. sound.balanced (Balancer b) h) in
    let exits : sum_below t.width (λ i. l.count (Exit i)) + sum_below t.width (λ i. sum_at t (Exit i) l.on)
    ≡ sum_below t.width (λ i. sum_at t (Exit i) (put t l)) =
    sym (sum-below-plus t.width (λ i. l.count (Exit i)) (λ i. sum_at t (Exit i) l.on))
    ∙ sum-below-same t.width _ _ (λ i h. sound.balanced (Exit i) h) in
    let wires : sum_below (length t.ends) (put t l) ≡ sum_below (t.entries + 2 * t.balancers) (put t l) =
    ap (λ n. sum_below n (put t l)) w.wires in
    omega (arith, put-sum t l t.balancers (omega arith))

-- what the laws say
pub ruleset count_laws = (counts-few, nobody-lost)

pub ruleset name_laws = (names-differ, granted-once)
