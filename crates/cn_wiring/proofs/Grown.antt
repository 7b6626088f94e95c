-- What a balancer over loose wires does to a plan.
use Rattle.cn_wiring.proofs.Common.{◌≡◌, ℕ, ◌+◌, ◌<◌, ◌≤◌, ◌⊎◌, inl, inr, false, List, [], ◌∷◌, ◌++◌, length, get_or, refl, ◌∙◌, arith, eqb, Some, None, length-append, sum_by, add-zero, cases_eq, eq-eqb, ne_eqb, nat_tests, sum_by-cons, half, when, times, Plan, ends_at, passages, IsFlow, loose, AllLoose, IsPath, HasLevel, Each, Builds, next_wire, IsOrderly, MOST_BALANCERS, total-where-none, total-where-push, set, length-set, zero-add}
use Rattle.cn_wiring.proofs.Marks.{AllLooseIn, below_from-end, below_from-loose, get-or-push-none, length-mark, loose_in, loose_in-mark, loose_in-push, mark, mark-at, mark-other, total-mark, head-loose, tail-loose}

-- the plan with one more balancer, at which ws end
abbrev pub grown : Plan → List ℕ → Plan
grown d ws = record {
  entries = d.entries;
  balancers = d.balancers + 1;
  ends = (mark d.ends ws d.balancers ++ None ∷ []) ++ None ∷ [];
}

not_there : (d : Plan) (i : ℕ) → IsOrderly d → ends_at d.balancers (get_or d.ends i None) ≡ false
not_there d i o =
    elim (get_or d.ends i None) as (λ e. ((b : ℕ) → e ≡ Some b → b < d.balancers) → ends_at d.balancers e ≡ false)
    [ None ↦ λ _. refl | Some c ↦ λ k. ne_eqb c d.balancers (λ e. let l = k c refl in omega arith) ]
    (λ b e. (o.ends i b e).0)

total-grown : (d : Plan) (ws : List ℕ) (c : ℕ) (f : ℕ → ℕ) → AllLoose d ws
    → passages (grown d ws) c f ≡ passages d c f + when (eqb d.balancers c) (sum_by f ws)
unfolding AllLooseIn
total-grown d ws c f h =
    rw (
      total-where-push (ends_at c) (mark d.ends ws d.balancers ++ None ∷ []) None f refl,
      total-where-push (ends_at c) (mark d.ends ws d.balancers) None f refl,
    )
    (total-mark d.ends ws d.balancers c f h)

-- the older balancers have the passages that they had
total-older : (d : Plan) (ws : List ℕ) (c : ℕ) (f : ℕ → ℕ) → AllLoose d ws → c < d.balancers → passages (grown d ws) c f ≡ passages d c f
total-older d ws c f h k =
    let e = ne_eqb d.balancers c (λ x. omega arith) in
    let t = rw e at (total-grown d ws c f h) in
    omega (arith, t)

-- the new balancer has the sum of ws
total-newest : (d : Plan) (ws : List ℕ) (f : ℕ → ℕ) → IsOrderly d → AllLoose d ws → passages (grown d ws) d.balancers f ≡ sum_by f ws
total-newest d ws f o h =
    let e = eq-eqb d.balancers d.balancers refl in
    let t = rw e at (total-grown d ws d.balancers f h) in
    let n : passages d d.balancers f ≡ 0 = total-where-none (ends_at d.balancers) d.ends None f (λ i k. not_there d i o) in
    omega (arith, t)

pub flow-grown : (d : Plan) (ws : List ℕ) → AllLoose d ws → (f : ℕ → ℕ) → IsFlow (grown d ws) f → IsFlow d f
flow-grown d ws h f g b k =
    rw (← total-older d ws b f h k) (g b (omega arith))

pub halves-grown : (d : Plan) (ws : List ℕ) → IsOrderly d → AllLoose d ws → (f : ℕ → ℕ) → IsFlow (grown d ws) f
    → (f (next_wire d) ≡ half (sum_by f ws) 0) × (f (next_wire d + 1) ≡ half (sum_by f ws) 1)
halves-grown d ws o h f g =
    rw (← total-newest d ws f o h) (rw add-zero at (g d.balancers (omega arith)))

loosed-grown : (d : Plan) (ws : List ℕ) → IsOrderly d → AllLoose d ws → (w : ℕ)
    → loose (grown d ws) w + times w ws ≡ loose d w + times w (next_wire d ∷ (next_wire d + 1) ∷ [])
unfolding AllLooseIn times
loosed-grown d ws o h w =
    let m = mark d.ends ws d.balancers in
    let a = loose_in-push (m ++ None ∷ []) w in
    let b = loose_in-push m w in
    let c = loose_in-mark d.ends ws d.balancers w h in
    let l : length m ≡ next_wire d = length-mark d.ends ws d.balancers ∙ o.wires in
    let k : length (m ++ None ∷ []) ≡ next_wire d + 1 = length-append m (None ∷ []) ∙ omega arith in
    let a' : loose (grown d ws) w ≡ loose_in (m ++ None ∷ []) w + when (eqb (next_wire d + 1) w) 1 = rw k at a in
    let b' : loose_in (m ++ None ∷ []) w ≡ loose_in m w + when (eqb (next_wire d) w) 1 = rw l at b in
    omega arith

-- an end of the new plan, by the marked list
end-grown : (d : Plan) (ws : List ℕ) (u b : ℕ) → get_or (grown d ws).ends u None ≡ Some b
    → get_or (mark d.ends ws d.balancers) u None ≡ Some b
end-grown d ws u b e = get-or-push-none _ u b (get-or-push-none _ u b e)

old-path : (d : Plan) (ws : List ℕ) → IsOrderly d → AllLoose d ws → (w : ℕ) (us : List ℕ) → w < length d.ends → IsPath (grown d ws) w us
    → IsPath d w us
unfolding AllLooseIn
old-path d ws o h w [] k p = p
old-path d ws o h w (u ∷ us) k p =
    let b = p.0.0 in
    let wires = o.wires in
    let below : b < d.balancers = elim p.0.2 [ inl e ↦ omega arith | inr e ↦ omega arith ] in
    let was : get_or d.ends u None ≡ Some b = mark-other d.ends ws d.balancers u b (λ e. omega arith) h (end-grown d ws u b p.0.1) in
    ((b, was, p.0.2), old-path d ws o h u us (below_from-end d.ends u b was) p.1)

kept-grown : (d : Plan) (ws : List ℕ) → IsOrderly d → AllLoose d ws → (n w : ℕ) → w < length d.ends → HasLevel d n w
    → HasLevel (grown d ws) n w
kept-grown d ws o h n w k l us p = l us (old-path d ws o h w us k p)

one_of_two : (w x y : ℕ) → 1 ≤ times w (x ∷ y ∷ []) → (w ≡ x) ⊎ (w ≡ y)
unfolding times
one_of_two w x y k = grind (arith, nat_tests)

level-grown : (d : Plan) (ws : List ℕ) → IsOrderly d → AllLoose d ws → (n q w : ℕ) → q < 2 → w ≡ next_wire d + q → Each (HasLevel d n) ws
    → HasLevel (grown d ws) (n + 1) w
unfolding AllLooseIn
level-grown d ws o h n q w k at a [] p = absurd (omega arith)
level-grown d ws o h n q w k at a (u ∷ us) p =
    let b = p.0.0 in
    let wires = o.wires in
    let same : b ≡ d.balancers = elim p.0.2 [ inl e ↦ omega arith | inr e ↦ omega arith ] in
    let found : get_or (mark d.ends ws d.balancers) u None ≡ Some d.balancers = rw same at (end-grown d ws u b p.0.1) in
    let inside : 1 ≤ times u ws = elim (mark-at d.ends ws d.balancers u found)
    [ inl t ↦ absurd (let x = (o.ends u d.balancers t).0 in omega arith) | inr t ↦ t ] in
    let here : u < length d.ends = below_from-loose d.ends u (let x = h u in omega arith) in
    let l : HasLevel d n u = a u inside in
    let m : length us ≡ n = l us (old-path d ws o h u us here p.1) in
    rw m (omega arith)

pub builds-grown : (d : Plan) (ws : List ℕ) → IsOrderly d → AllLoose d ws
    → Builds d (grown d ws) ws (next_wire d ∷ (next_wire d + 1) ∷ []) 1 1
builds-grown d ws o h = record {
  entries = refl;
  balancers = refl;
  wires = omega (
    arith,
    length-append (mark d.ends ws d.balancers ++ None ∷ []) (None ∷ []),
    length-append (mark d.ends ws d.balancers) (None ∷ []),
    length-mark d.ends ws d.balancers,
  );
  loosed = loosed-grown d ws o h;
  flow = flow-grown d ws h;
  kept = kept-grown d ws o h;
  level = λ n a w k. elim (one_of_two w _ _ k) [
    | inl at ↦ level-grown d ws o h n 0 w (omega arith) (omega arith) a
    | inr at ↦ level-grown d ws o h n 1 w (omega arith) at a
  ];
}

sum-by-one : (ws : List ℕ) → sum_by (λ (_ : ℕ). 1) ws ≡ length ws
sum-by-one [] = refl
sum-by-one (w ∷ ws) = rw (sum_by-cons (λ (_ : ℕ). 1) w ws, sum-by-one ws) (omega arith)

pub orderly-grown : (d : Plan) (ws : List ℕ) → IsOrderly d → AllLoose d ws → d.balancers < MOST_BALANCERS
    → (1 ≤ length ws) × (length ws ≤ 2) → IsOrderly (grown d ws)
unfolding AllLooseIn
orderly-grown d ws o h k two = record {
  entries = o.entries;
  balancers = omega arith;
  wires =
      let wires = o.wires in
      omega (
        arith,
        length-append (mark d.ends ws d.balancers ++ None ∷ []) (None ∷ []),
        length-append (mark d.ends ws d.balancers) (None ∷ []),
        length-mark d.ends ws d.balancers,
      );
  ends = λ u b e.
      let found = end-grown d ws u b e in
      elim (cases_eq b d.balancers) [
        | inl same ↦ (
          omega arith,
          elim (mark-at d.ends ws d.balancers u (rw same at found)) [
            | inl t ↦ absurd (let x = (o.ends u d.balancers t).0 in omega arith)
            | inr t ↦ let here : u < length d.ends = below_from-loose d.ends u (let x = h u in omega arith) in let wires = o.wires in
                omega arith
          ],
        )
        | inr other ↦ let was = o.ends u b (mark-other d.ends ws d.balancers u b other h found) in (omega arith, omega arith)
      ];
  degree = λ b l.
      elim (cases_eq b d.balancers) [
        | inl same ↦ rw (same, total-newest d ws (λ _. 1) o h, sum-by-one ws) two
        | inr other ↦ let m : b < d.balancers = omega arith in rw (total-older d ws b (λ _. 1) h m) (o.degree b m)
      ];
}

-- a flow of the plan that gives the new balancer's outputs their halves is one of the new plan
pub flow-shrunk : (d : Plan) (ws : List ℕ) → IsOrderly d → AllLoose d ws → (f : ℕ → ℕ) → IsFlow d f
    → f (next_wire d) ≡ half (sum_by f ws) 0 → f (next_wire d + 1) ≡ half (sum_by f ws) 1 → IsFlow (grown d ws) f
flow-shrunk d ws o h f g first second b k =
    elim (cases_eq b d.balancers) [
      | inl same ↦ rw (same, total-newest d ws f o h, add-zero) (first, second)
      | inr other ↦ let l : b < d.balancers = omega arith in rw (total-older d ws b f h l) (g b l)
    ]

-- A balancer over two loose wires, and one over a loose wire: the flows of the plan.

pub two-stand : (d : Plan) (u v : ℕ) → AllLoose d (u ∷ v ∷ []) → (u < length d.ends) × (v < length d.ends)
unfolding AllLooseIn times
two-stand d u v h =
    let first = head-loose d.ends u (v ∷ []) h in
    let second = head-loose (set d.ends u (Some 0)) v [] (tail-loose d.ends u 0 (v ∷ []) h) in (
      below_from-loose d.ends u first,
      let k = below_from-loose (set d.ends u (Some 0)) v second in
          omega (arith, length-set d.ends u (Some 0)),
    )

pub halves-joined : (d : Plan) (u v : ℕ) → IsOrderly d → AllLoose d (u ∷ v ∷ []) → (f : ℕ → ℕ) → IsFlow (grown d (u ∷ v ∷ [])) f
    → (f (next_wire d) ≡ half (f u + f v) 0) × (f (next_wire d + 1) ≡ half (f u + f v) 1)
halves-joined d u v o h f g =
    let e : sum_by f (u ∷ v ∷ []) ≡ f u + f v = rw zero-add in
    rw e at (halves-grown d (u ∷ v ∷ []) o h f g)

pub flow-unjoined : (d : Plan) (u v : ℕ) → IsOrderly d → AllLoose d (u ∷ v ∷ []) → (f : ℕ → ℕ) → IsFlow d f
    → f (next_wire d) ≡ half (f u + f v) 0 → f (next_wire d + 1) ≡ half (f u + f v) 1 → IsFlow (grown d (u ∷ v ∷ [])) f
flow-unjoined d u v o h f g =
    let e : sum_by f (u ∷ v ∷ []) ≡ f u + f v = rw zero-add in
    rw e at (flow-shrunk d (u ∷ v ∷ []) o h f g)

-- only one wire
pub one-stands : (d : Plan) (u : ℕ) → AllLoose d (u ∷ []) → u < length d.ends
unfolding AllLooseIn
one-stands d u h = below_from-loose d.ends u (head-loose d.ends u [] h)

pub halves-forked : (d : Plan) (u : ℕ) → IsOrderly d → AllLoose d (u ∷ []) → (f : ℕ → ℕ) → IsFlow (grown d (u ∷ [])) f
    → (f (next_wire d) ≡ half (f u) 0) × (f (next_wire d + 1) ≡ half (f u) 1)
halves-forked d u o h f g =
    let e : sum_by f (u ∷ []) ≡ f u = rw zero-add in
    rw e at (halves-grown d (u ∷ []) o h f g)

pub flow-unforked : (d : Plan) (u : ℕ) → IsOrderly d → AllLoose d (u ∷ []) → (f : ℕ → ℕ) → IsFlow d f
    → f (next_wire d) ≡ half (f u) 0 → f (next_wire d + 1) ≡ half (f u) 1 → IsFlow (grown d (u ∷ [])) f
flow-unforked d u o h f g =
    let e : sum_by f (u ∷ []) ≡ f u = rw zero-add in
    rw e at (flow-shrunk d (u ∷ []) o h f g)
