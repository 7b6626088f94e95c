-- What each event changes: it keeps a ledger sound, and a client that goes stood where it goes from.
use Rattle.cn_ledger.proofs.Common.{◌≡◌, ℕ, zero, suc, ◌+◌, ◌-◌, ◌*◌, ◌/◌, ◌%◌, ◌≤◌, ◌<◌, Bool, cond, eqb, List, [], ◌∷◌, length, get_or, ◌∙◌, arith, nat_tests, cases_Bool, half, End, Balancer, when, total_where, Table, is_end, sum_at, output_wire, total-where-agree, total-where-shift, total-where-zero, Ledger, put, Enters, Passes, Leaves, one_at, ◌≢◌, ◌&&◌, true, false, sym, refl, ap, add-zero, eqb-true, Exit, sum_below, once_below, once-next, sum-below-pick, sum-below-same, Goes, inl, inr, subst, cases_lt, eq-eqb, ne_eqb, name_of, IsWellFormed, Stands, end_of, older, IsSound}

-- The sums at an end where its numbers change, and what each event puts on a wire.

-- ---- sums at an end, where the numbers change

-- one place counts where its member passes
pub total-where-point : {A : Type 0} → (p : A → Bool) (xs : List A) (d : A) (w : ℕ) → w < length xs
    → total_where p xs (one_at w) ≡ when (p (get_or xs w d)) 1
unfolding total_where
total-where-point p [] d w h = absurd (omega arith)
total-where-point p (x ∷ xs) d zero h =
    let rest = total-where-agree p xs d (λ u. one_at 0 (suc u)) (λ _. 0) (λ u k e. grind (arith, nat_tests)) ∙ total-where-zero p xs in
    grind (arith, nat_tests)
total-where-point p (x ∷ xs) d (suc w) h =
    let rest = total-where-agree p xs d (λ u. one_at (suc w) (suc u)) (one_at w) (λ u k e. grind (arith, nat_tests))
    ∙ total-where-point p xs d w (omega arith) in
    grind (arith, nat_tests, cases_Bool (p x))

-- what was put on the wires with this end and what went by there rise together
pub balanced-after : (t : Table) (end : End) (old_on new_on old_put new_put from to : ℕ → ℕ) (old_count new_count : ℕ)
    → ((u : ℕ) → u < length t.ends → new_on u + from u ≡ old_on u + to u)
    → ((u : ℕ) → u < length t.ends → new_put u ≡ old_put u + to u)
    → new_count ≡ old_count + sum_at t end from
    → old_count + sum_at t end old_on ≡ sum_at t end old_put
    → new_count + sum_at t end new_on ≡ sum_at t end new_put
balanced-after t end old_on new_on old_put new_put from to old_count new_count on puts counts was =
    let a = total-where-shift (is_end end) t.ends new_on from old_on to on in
    let b = total-where-shift (is_end end) t.ends new_put (λ _. 0) old_put to (λ u h. omega (arith, puts u h)) in
    omega (arith, total-where-zero (is_end end) t.ends)

-- ---- what is put on a wire

half-more : (n p : ℕ) → p < 2 → half (n + 1) p ≡ half n p + one_at (n % 2) p
half-more n p few = grind (arith, nat_tests)

pub put-enter : (t : Table) (old new : Ledger) (c e : ℕ) → Enters t old new c e → (u : ℕ) → put t new u ≡ put t old u + one_at e u
put-enter t old new c e ev u = grind (arith, nat_tests, ev.entered u, ev.count (Balancer ((u - t.entries) / 2)), ev.inside)

shifted : (entries b r u : ℕ) → r < 2 → entries ≤ u
    → one_at (entries + 2 * b + r) u ≡ cond (eqb ((u - entries) / 2) b) (one_at r ((u - entries) % 2)) 0
shifted entries b r u few high = grind (arith, nat_tests)

pub put-pass : (t : Table) (old new : Ledger) (c w b : ℕ) → Passes t old new c w b → (u : ℕ)
    → put t new u ≡ put t old u + one_at (output_wire t b (old.count (Balancer b) % 2)) u
put-pass t old new c w b ev u =
    let n : ℕ = old.count (Balancer b) in
    let q : ℕ = (u - t.entries) / 2 in
    grind (
      arith,
      nat_tests,
      ev.goes.entered u,
      ev.goes.count (Balancer q),
      shifted t.entries b (n % 2) u (omega arith),
      half-more n ((u - t.entries) % 2) (omega arith),
    )

pub put-leave : (t : Table) (old new : Ledger) (c w i : ℕ) → Leaves t old new c w i → (u : ℕ) → put t new u ≡ put t old u
put-leave t old new c w i ev u = grind (arith, nat_tests, ev.goes.entered u, ev.goes.count (Balancer ((u - t.entries) / 2)))

-- What an event makes of counts, numbers, grants and the clients on a wire.

-- ---- ends

same-end : (a b : End) → is_end a b ≡ true → a ≡ b
same-end (Balancer b) (Balancer c) e = ap Balancer (sym (eqb-true c b e))
same-end (Exit i) (Exit j) e = ap Exit (sym (eqb-true j i e))
same-end _ _ e = absurd (cc)

pub eqb-sym : (a b : ℕ) → eqb a b ≡ eqb b a
eqb-sym a b = grind (arith, nat_tests)

pub is_end-sym : (a b : End) → is_end a b ≡ is_end b a
is_end-sym (Balancer b) (Balancer c) = eqb-sym c b
is_end-sym (Exit i) (Exit j) = eqb-sym j i
is_end-sym _ _ = refl

-- ---- the counts and numbers of a client that goes

pub count-from : (t : Table) (old new : Ledger) (c u : ℕ) (end : End) (to : ℕ → ℕ) → Goes t old new c u end to → (other : End)
    → new.count other ≡ old.count other + sum_at t other (one_at u)
count-from t old new c u end to ev other =
    ev.count other ∙ ap (λ (k : ℕ). old.count other + k)
    (ap (λ q. cond q 1 0) (is_end-sym end other) ∙ ap (λ e. cond (is_end other e) 1 0) (sym ev.ends)
    ∙ sym (total-where-point (is_end other) t.ends (Balancer 0) u ev.inside))

once-more : (here : Bool) (k n c : ℕ) → (here ≡ true → c ≡ n)
    → once_below (c + cond here 1 0) k ≡ once_below c k + cond (here && eqb n k) 1 0
once-more false k n c h = ap (λ (m : ℕ). once_below m k) (add-zero c) ∙ sym (add-zero (once_below c k))
once-more true k n c h = let e = h refl in let next : n + 1 ≡ suc n = omega arith in rw (e, next) (once-next n k)

pub numbered-after : (t : Table) (old new : Ledger) (c u : ℕ) (end : End) (to : ℕ → ℕ) → Goes t old new c u end to → (other : End) (n : ℕ)
    → old.given other n ≡ once_below (old.count other) n → new.given other n ≡ once_below (new.count other) n
numbered-after t old new c u end to ev other n was =
    let more = once-more (is_end end other) n (old.count end) (old.count other) (λ e. ap old.count (sym (same-end end other e))) in
    let now : once_below (new.count other) n ≡ once_below (old.count other + cond (is_end end other) 1 0) n =
    ap (λ (m : ℕ). once_below m n) (ev.count other) in
    omega (arith, ev.given other n)

-- ---- the grants

pub once-leave : (c d i j n v a b : ℕ) → cond (eqb c d && (eqb i j && (eqb n v && eqb a b))) 1 0 ≤ cond (eqb j i && eqb n v) 1 0
once-leave c d i j n v a b = grind (arith, nat_tests)

pub distinct-leave : (c d e i j n v a b : ℕ) → d ≢ e
    → cond (eqb c d && (eqb i j && (eqb n v && eqb a b))) 1 0 + cond (eqb c e && (eqb i j && (eqb n v && eqb a b))) 1 0
    ≤ cond (eqb j i && eqb n v) 1 0
distinct-leave c d e i j n v a b differ = grind (arith, nat_tests)

-- ---- the clients on a wire

-- the sum if only client c is in one more
one_more-sum : (c v k : ℕ) (f g : ℕ → ℕ) → c < k → ((d : ℕ) → f d ≡ g d + when (eqb c d) v) → sum_below k f ≡ sum_below k g + v
one_more-sum c v k f g h same =
    let a = sum-below-same k f (λ d. when (eqb c d) v + g d) (λ d j. omega (arith, same d)) in
    omega (arith, sum-below-pick k c v g h)

-- the two ways to say that client c stands once more on wire u
once-there : (u w c d : ℕ) → when (eqb u w && eqb c d) 1 ≡ when (eqb c d) (one_at u w)
once-there u w c d = grind (arith, nat_tests)

-- numbers f 0, f 1, f 2 .. add up to m: each sum of enough of them is m
abbrev AddsUpTo : (ℕ → ℕ) → ℕ → Type 0
AddsUpTo f m = (n : ℕ) × ((k : ℕ) → n ≤ k → sum_below k f ≡ m)

pub clients-enter : (t : Table) (old new : Ledger) (c u : ℕ) → Enters t old new c u → (w : ℕ) → AddsUpTo (old.standing w) (old.on w)
    → AddsUpTo (new.standing w) (new.on w)
clients-enter t old new c u ev w (n, sums) = (
  n + suc c,
  λ k h.
      let more = one_more-sum c (one_at u w) k (new.standing w) (old.standing w) (omega arith)
      (λ d. omega (arith, ev.standing w d, once-there u w c d)) in
      omega (arith, sums k (omega arith), ev.on w),
)

pub clients-go : (t : Table) (old new : Ledger) (c u : ℕ) (end : End) (to : ℕ → ℕ) → Goes t old new c u end to → (w : ℕ)
    → AddsUpTo (old.standing w) (old.on w) → AddsUpTo (new.standing w) (new.on w)
clients-go t old new c u end to ev w (n, sums) = (
  n + suc c,
  λ k h.
      let whole = λ (d : ℕ). old.standing w d + when (eqb c d) (to w) in
      let less = one_more-sum c (one_at u w) k whole (new.standing w) (omega arith)
      (λ d. omega (arith, ev.standing w d, once-there u w c d)) in
      let more = one_more-sum c (to w) k whole (old.standing w) (omega arith) (λ d. refl) in
      omega (arith, sums k (omega arith), ev.on w),
)

-- ---- the laws

pub sound-enters : (t : Table) (old new : Ledger) (c u : ℕ) → Enters t old new c u → IsSound t old → IsSound t new
sound-enters t old new c u ev sound = record {
  balanced = λ end h.
      balanced-after t end old.on new.on (put t old) (put t new) (λ _. 0) (one_at u) (old.count end) (new.count end)
      (λ w k. omega (arith, ev.on w)) (λ w k. put-enter t old new c u ev w)
      (omega (arith, ev.count end, total-where-zero (is_end end) t.ends)) (sound.balanced end h);
  clients = λ w. clients-enter t old new c u ev w (sound.clients w);
  numbered = λ end n h. ev.given end n ∙ sound.numbered end n h ∙ ap (λ m. once_below m n) (sym (ev.count end));
  named = λ d i v name g. sound.named d i v name (rw (ev.granted d i v name) at g);
  once = λ d i v name. omega (arith, sound.once d i v name, ev.granted d i v name, ev.given (Exit i) v);
  distinct = λ d e i v differ. omega (
    arith,
    sound.distinct d e i v differ,
    ev.granted d i v (name_of t.width i v),
    ev.granted e i v (name_of t.width i v),
    ev.given (Exit i) v,
  );
  owned = λ i v h g.
      let (d, k) = sound.owned i v h (omega (arith, ev.given (Exit i) v)) in
      (d, omega (arith, ev.granted d i v (name_of t.width i v)));
}

pub sound-passes : (t : Table) (old new : Ledger) (c u b : ℕ) → Passes t old new c u b → IsSound t old → IsSound t new
sound-passes t old new c u b ev sound =
    let to : ℕ → ℕ = one_at (output_wire t b (old.count (Balancer b) % 2)) in
    record {
      balanced = λ end h.
          balanced-after t end old.on new.on (put t old) (put t new) (one_at u) to (old.count end) (new.count end)
          (λ w k. ev.goes.on w) (λ w k. put-pass t old new c u b ev w) (count-from t old new c u (Balancer b) to ev.goes end)
          (sound.balanced end h);
      clients = λ w. clients-go t old new c u (Balancer b) to ev.goes w (sound.clients w);
      numbered = λ end n h. numbered-after t old new c u (Balancer b) to ev.goes end n (sound.numbered end n h);
      named = λ d i v name g. sound.named d i v name (rw (ev.granted d i v name) at g);
      once = λ d i v name. omega (arith, sound.once d i v name, ev.granted d i v name, ev.goes.given (Exit i) v);
      distinct = λ d e i v differ. omega (
        arith,
        sound.distinct d e i v differ,
        ev.granted d i v (name_of t.width i v),
        ev.granted e i v (name_of t.width i v),
        ev.goes.given (Exit i) v,
      );
      owned = λ i v h g.
          let (d, k) = sound.owned i v h (omega (arith, ev.goes.given (Exit i) v)) in
          (d, omega (arith, ev.granted d i v (name_of t.width i v)));
    }

pub sound-leaves : (t : Table) → IsWellFormed t → (old new : Ledger) (c u i : ℕ) → Leaves t old new c u i → IsSound t old → IsSound t new
sound-leaves t w old new c u i ev sound =
    let n : ℕ = old.count (Exit i) in
    record {
      balanced = λ end h.
          balanced-after t end old.on new.on (put t old) (put t new) (one_at u) (λ _. 0) (old.count end) (new.count end)
          (λ x k. ev.goes.on x) (λ x k. omega (arith, put-leave t old new c u i ev x))
          (count-from t old new c u (Exit i) (λ _. 0) ev.goes end) (sound.balanced end h);
      clients = λ w. clients-go t old new c u (Exit i) (λ _. 0) ev.goes w (sound.clients w);
      numbered = λ end m h. numbered-after t old new c u (Exit i) (λ _. 0) ev.goes end m (sound.numbered end m h);
      named = λ d j v name g.
          let there : Stands t (Exit i) = subst (Stands t) ev.goes.ends (w.stands u ev.goes.inside) in
          grind (arith, nat_tests, sound.named d j v name, ev.granted d j v name);
      once = λ d j v name. omega (
        arith,
        sound.once d j v name,
        ev.granted d j v name,
        ev.goes.given (Exit j) v,
        once-leave c d i j n v (name_of t.width i n) name,
      );
      distinct = λ d e j v differ.
          omega (
            arith,
            sound.distinct d e j v differ,
            ev.granted d j v (name_of t.width j v),
            ev.granted e j v (name_of t.width j v),
            ev.goes.given (Exit j) v,
            distinct-leave c d e i j n v (name_of t.width i n) (name_of t.width j v) differ,
          );
      owned = λ j v h g.
          elim (cases_lt 0 (old.given (Exit j) v)) [
            | inl k ↦
                let (d, m) = sound.owned j v h k in
                (d, omega (arith, ev.granted d j v (name_of t.width j v)))
            | inr k ↦ (c, grind (arith, nat_tests, ev.granted c j v (name_of t.width j v), ev.goes.given (Exit j) v))
          ];
    }

-- ---- where a client that goes stood

-- a client that goes from a wire on which it is not put stood there
goes-stood : (t : Table) (old new : Ledger) (c u : ℕ) (end : End) (to : ℕ → ℕ) → Goes t old new c u end to → to u ≡ 0
    → (1 ≤ old.standing u c) × (1 ≤ old.on u)
goes-stood t old new c u end to ev none = (grind (arith, nat_tests, ev.standing u c), grind (arith, nat_tests, ev.on u))

pub passes-stood : (t : Table) → IsWellFormed t → (old new : Ledger) (c u b : ℕ) → Passes t old new c u b
    → (1 ≤ old.standing u c) × (1 ≤ old.on u)
passes-stood t w old new c u b ev =
    let here : is_end (Balancer b) (end_of t u) ≡ true = ap (is_end (Balancer b)) ev.goes.ends ∙ eq-eqb b b refl in
    let first = older t w b u ev.goes.inside here in
    let wire : ℕ = output_wire t b (old.count (Balancer b) % 2) in
    goes-stood t old new c u (Balancer b) (one_at wire) ev.goes (ap {B = ℕ} (λ q. cond q 1 0) (ne_eqb wire u (λ e. omega arith)))

pub leaves-stood : (t : Table) (old new : Ledger) (c u i : ℕ) → Leaves t old new c u i → (1 ≤ old.standing u c) × (1 ≤ old.on u)
leaves-stood t old new c u i ev = goes-stood t old new c u (Exit i) (λ _. 0) ev.goes refl

-- what the laws say
pub ruleset stood_laws = (passes-stood, leaves-stood)
