-- A flow of a plan exists and is the only one, and there is a path to each wire.
use Rattle.cn_tables.proofs.Common.{◌≡◌, ℕ, zero, suc, ◌+◌, ◌-◌, ◌*◌, ◌<◌, ◌≤◌, inl, inr, Bool, true, false, cond, List, [], ◌∷◌, length, get_or, refl, ap, sym, ◌∙◌, arith, ltb, add-zero, zero-add, Option, Some, None, cases_eq, cases_lt, eqb-true, lt-ltb, le-ltb, half, when, total_where, Agree, Plan, IsFlow, passages, ends_at, IsPath, IsOrderly, total-where-agree}

-- what ends at b
at_some : (b : ℕ) (x : Option ℕ) → ends_at b x ≡ true → x ≡ Some b
at_some b None q = absurd (cc)
at_some b (Some c) q = ap Some (eqb-true c b q)

older : (d : Plan) → IsOrderly d → (b u : ℕ) → ends_at b (get_or d.ends u None) ≡ true → u < d.entries + 2 * b
older d o b u e = omega (arith, (o.ends u b (at_some b (get_or d.ends u None) e)).1)

pub into-agree : (d : Plan) → IsOrderly d → (b : ℕ) (f g : ℕ → ℕ) → Agree (d.entries + 2 * b) f g → passages d b f ≡ passages d b g
into-agree d w b f g h = total-where-agree (ends_at b) d.ends None f g (λ u k e. h u (older d w b u e))

-- one balancer more
agree-more : (n : ℕ) (f g : ℕ → ℕ) → Agree n f g → f n ≡ g n → f (n + 1) ≡ g (n + 1) → Agree (n + 2) f g
agree-more n f g h p q u k = grind (arith, h u)

agree-upto : (d : Plan) → IsOrderly d → (f g : ℕ → ℕ) → IsFlow d f → IsFlow d g → Agree d.entries f g → (b : ℕ) → b ≤ d.balancers
    → Agree (d.entries + 2 * b) f g
agree-upto d w f g p q h zero k = rw add-zero h
agree-upto d w f g p q h (suc b) k =
    let before = agree-upto d w f g p q h b (omega arith) in
    let same = into-agree d w b f g before in
    let pb = p b (omega arith) in
    let qb = q b (omega arith) in
    let m : d.entries + 2 * suc b ≡ (d.entries + 2 * b) + 2 = omega arith in
    rw m (agree-more (d.entries + 2 * b) f g before ((rw add-zero at pb.0) ∙ ap (λ n. half n 0) same ∙ sym (rw add-zero at qb.0))
    (pb.1 ∙ ap (λ n. half n 1) same ∙ sym qb.1))

pub flow-unique : (d : Plan) → IsOrderly d → (f g : ℕ → ℕ) → IsFlow d f → IsFlow d g → Agree d.entries f g
    → Agree (d.entries + 2 * d.balancers) f g
flow-unique d w f g p q h = agree-upto d w f g p q h d.balancers (omega arith)

-- the flow of inputs x, made balancer by balancer
flow-upto : Plan → (ℕ → ℕ) → ℕ → ℕ → ℕ
flow-upto d x zero u = x u
flow-upto d x (suc b) u =
    cond (ltb u (d.entries + 2 * b)) (flow-upto d x b u) (half (passages d b (flow-upto d x b)) (u - (d.entries + 2 * b)))

flow-upto-older : (d : Plan) (x : ℕ → ℕ) (b u : ℕ) → u < d.entries + 2 * b → flow-upto d x (suc b) u ≡ flow-upto d x b u
unfolding flow-upto
flow-upto-older d x b u k = rw (lt-ltb u (d.entries + 2 * b) k)

flow-upto-kept : (d : Plan) (x : ℕ → ℕ) (b n : ℕ) → Agree (d.entries + 2 * b) (flow-upto d x (n + b)) (flow-upto d x b)
flow-upto-kept d x b zero u k = rw zero-add
flow-upto-kept d x b (suc n) u k =
    let e : suc n + b ≡ suc (n + b) = omega arith in
    rw e (flow-upto-older d x (n + b) u (omega arith) ∙ flow-upto-kept d x b n u k)

flow-upto-new : (d : Plan) (x : ℕ → ℕ) (b p : ℕ) → flow-upto d x (suc b) (d.entries + 2 * b + p) ≡ half (passages d b (flow-upto d x b)) p
unfolding flow-upto
flow-upto-new d x b p =
    let e : d.entries + 2 * b + p - (d.entries + 2 * b) ≡ p = omega arith in
    rw (le-ltb (d.entries + 2 * b + p) (d.entries + 2 * b) (omega arith), e)

flow-is : (d : Plan) → IsOrderly d → (x : ℕ → ℕ) → IsFlow d (flow-upto d x d.balancers)
flow-is d w x b k =
    let n : ℕ = d.balancers - suc b in
    let e : n + suc b ≡ d.balancers = omega arith in
    let whole = flow-upto d x d.balancers in
    let kept : Agree (d.entries + 2 * suc b) whole (flow-upto d x (suc b)) = rw e at (flow-upto-kept d x (suc b) n) in
    let same : passages d b whole ≡ passages d b (flow-upto d x b) =
    into-agree d w b whole (flow-upto d x b) (λ u j. kept u (omega arith) ∙ flow-upto-older d x b u j) in (
      rw add-zero (kept (d.entries + 2 * b) (omega arith) ∙ (rw add-zero at (flow-upto-new d x b 0)) ∙ ap (λ s. half s 0) (sym same)),
      kept (d.entries + 2 * b + 1) (omega arith) ∙ flow-upto-new d x b 1 ∙ ap (λ s. half s 1) (sym same),
    )

flow-inputs : (d : Plan) (x : ℕ → ℕ) → Agree d.entries (flow-upto d x d.balancers) x
unfolding flow-upto
flow-inputs d x u k =
    let e : d.balancers + 0 ≡ d.balancers = omega arith in
    let kept = rw e at (flow-upto-kept d x 0 d.balancers) in
    kept u (omega arith)

pub flow-exists : (d : Plan) → IsOrderly d → (x : ℕ → ℕ) → (f : ℕ → ℕ) × IsFlow d f × Agree d.entries f x
flow-exists d w x = (flow-upto d x d.balancers, flow-is d w x, flow-inputs d x)

-- a sum that is not 0 has a place
some_place : {A : Type 0} → (p : A → Bool) (xs : List A) (d : A) (f : ℕ → ℕ) → 1 ≤ total_where p xs f → (u : ℕ) × (p (get_or xs u d) ≡ true)
unfolding total_where
some_place p [] d f h = absurd (omega arith)
some_place p (x ∷ xs) d f h = by (p x) refl h (some_place p xs d (λ u. f (suc u)))
  where
    by : (b : Bool) → p x ≡ b → 1 ≤ when b (f 0) + total_where p xs (λ u. f (suc u))
        → (1 ≤ total_where p xs (λ u. f (suc u)) → (u : ℕ) × (p (get_or xs u d) ≡ true)) → (u : ℕ) × (p (get_or (x ∷ xs) u d) ≡ true)
    by true is k rest = (0, is)
    by false is k rest = let (u, e) = rest (omega arith) in (suc u, e)

-- a path to each wire that is older than the outputs of balancer b
path-upto : (d : Plan) → IsOrderly d → (b : ℕ) → b ≤ d.balancers → (w : ℕ) → w < d.entries + 2 * b → (us : List ℕ) × IsPath d w us
path-upto d o zero k w h = ([], omega arith)
path-upto d o (suc b) k w h =
    let (u, e) = some_place (ends_at b) d.ends None (λ _. 1) (o.degree b (omega arith)).0 in
    let (us, path) = path-upto d o b (omega arith) u (older d o b u e) in
    elim (cases_lt w (d.entries + 2 * b)) [
      | inl l ↦ path-upto d o b (omega arith) w l
      | inr l ↦ elim (cases_eq w (d.entries + 2 * b)) [
        | inl q ↦ (u ∷ us, ((b, at_some b (get_or d.ends u None) e, inl (omega arith)), path))
        | inr q ↦ (u ∷ us, ((b, at_some b (get_or d.ends u None) e, inr (omega arith)), path))
      ]
    ]

pub paths : (d : Plan) → IsOrderly d → (w : ℕ) → w < length d.ends → (us : List ℕ) × IsPath d w us
paths d o w h = path-upto d o d.balancers (omega arith) w (omega (arith, o.wires))
