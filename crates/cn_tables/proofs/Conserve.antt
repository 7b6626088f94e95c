-- A full flow keeps the sum.
use Rattle.cn_tables.proofs.Common.{◌≡◌, ℕ, zero, suc, ◌+◌, ◌*◌, ◌<◌, ◌≤◌, List, [], ◌∷◌, length, get_or, refl, ap, arith, zero-add, End, Balancer, Exit, half, total_where, sum_below, half-sum, sum-below-front, sum-below-none, sum-below-pick, sum-below-same, sum-below-zero, Table, is_end, sum_at, Stands, IsWellFormed, IsFullFlow, eqb, ltb, nat_tests, lt-ltb, when, sum-below-change, sum-below-cut, sum-below-part, total-where-agree}
use Rattle.cn_tables.proofs.Flow.{older}

-- each place of the list is at one balancer or at one exit
pub count-twice : (t : Table) (xs : List End) (f : ℕ → ℕ) → ((u : ℕ) → u < length xs → Stands t (get_or xs u (Balancer 0)))
    → sum_below t.balancers (λ b. total_where (is_end (Balancer b)) xs f) + sum_below t.width (λ i. total_where (is_end (Exit i)) xs f)
    ≡ sum_below (length xs) f
unfolding total_where
count-twice t [] f h = omega (
  arith,
  sum-below-zero t.balancers (λ _. 0) (λ _. refl),
  sum-below-zero t.width (λ _. 0) (λ _. refl),
  sum-below-none f,
)
count-twice t (Balancer c ∷ xs) f h =
    let rest = count-twice t xs (λ u. f (suc u)) (λ u k. h (suc u) (omega arith)) in
    let first = sum-below-pick t.balancers c (f 0) (λ b. total_where (is_end (Balancer b)) xs (λ u. f (suc u))) (h 0 (omega arith)) in
    let other : sum_below t.width (λ i. 0 + total_where (is_end (Exit i)) xs (λ u. f (suc u)))
    ≡ sum_below t.width (λ i. total_where (is_end (Exit i)) xs (λ u. f (suc u))) = sum-below-same t.width _ _ (λ u k. zero-add _) in
    omega (arith, sum-below-front (length xs) f)
count-twice t (Exit j ∷ xs) f h =
    let rest = count-twice t xs (λ u. f (suc u)) (λ u k. h (suc u) (omega arith)) in
    let first = sum-below-pick t.width j (f 0) (λ i. total_where (is_end (Exit i)) xs (λ u. f (suc u))) (h 0 (omega arith)) in
    let other : sum_below t.balancers (λ b. 0 + total_where (is_end (Balancer b)) xs (λ u. f (suc u)))
    ≡ sum_below t.balancers (λ b. total_where (is_end (Balancer b)) xs (λ u. f (suc u))) =
    sum-below-same t.balancers _ _ (λ u k. zero-add _) in
    omega (arith, sum-below-front (length xs) f)

-- the wires are the entries and the outputs
pub wires-sum : (t : Table) (f : ℕ → ℕ) → IsFullFlow t f → (n : ℕ) → n ≤ t.balancers
    → sum_below (t.entries + 2 * n) f ≡ sum_below t.entries f + sum_below n (λ b. sum_at t (Balancer b) f)
unfolding sum_below
wires-sum t f p zero k = let z : t.entries + 2 * 0 ≡ t.entries = omega arith in rw z (omega arith)
wires-sum t f p (suc n) k =
    let before = wires-sum t f p n (omega arith) in
    let halves = p n (omega arith) in
    let whole = half-sum (sum_at t (Balancer n) f) in
    let m : t.entries + 2 * suc n ≡ suc (suc (t.entries + 2 * n)) = omega arith in
    let e : t.entries + 2 * n + 1 ≡ suc (t.entries + 2 * n) = omega arith in
    let second : f (suc (t.entries + 2 * n)) ≡ half (sum_at t (Balancer n) f) 1 = rw e at halves.1 in
    let two : sum_below (suc (suc (t.entries + 2 * n))) f
    ≡ sum_below (t.entries + 2 * n) f + f (t.entries + 2 * n) + f (suc (t.entries + 2 * n)) = refl in
    rw m (omega (arith, halves.0))

pub full-flow-sum : (t : Table) → IsWellFormed t → (f : ℕ → ℕ) → IsFullFlow t f
    → sum_below t.width (λ i. sum_at t (Exit i) f) ≡ sum_below t.entries f
full-flow-sum t w f p =
    let c : sum_below (length t.ends) f ≡ sum_below (t.entries + 2 * t.balancers) f = ap (λ n. sum_below n f) w.wires in
    omega (arith, count-twice t t.ends f w.stands, wires-sum t f p t.balancers (omega arith))

-- A full flow brings each end at most what entered.

-- each place of the list is at one of these balancers at most
at_most_once : (n : ℕ) (xs : List End) (f : ℕ → ℕ) → sum_below n (λ b. total_where (is_end (Balancer b)) xs f) ≤ sum_below (length xs) f
unfolding total_where
at_most_once n [] f = omega (arith, sum-below-zero n (λ _. 0) (λ _. refl))
at_most_once n (Balancer c ∷ xs) f =
    let rest = at_most_once n xs (λ u. f (suc u)) in
    let g : ℕ → ℕ = λ b. total_where (is_end (Balancer b)) xs (λ u. f (suc u)) in
    let one = sum-below-change n c (f 0) g (λ b. when (eqb c b) (f 0) + g b) (λ b. grind (arith, nat_tests)) in
    grind (arith, nat_tests, sum-below-front (length xs) f)
at_most_once n (Exit j ∷ xs) f =
    let rest = at_most_once n xs (λ u. f (suc u)) in
    let g : ℕ → ℕ = λ b. total_where (is_end (Balancer b)) xs (λ u. f (suc u)) in
    let same = sum-below-same n (λ b. 0 + g b) g (λ b k. zero-add (g b)) in
    omega (arith, sum-below-front (length xs) f)

one_more : (n : ℕ) (f : ℕ → ℕ) → sum_below (suc n) f ≡ sum_below n f + f n
unfolding sum_below
one_more n f = refl

-- the balancers up to b take what the wires before its outputs have, and what they take but b itself is gone on to wires
pub full-flow-few : (t : Table) → IsWellFormed t → (f : ℕ → ℕ) → IsFullFlow t f → (end : End) → Stands t end
    → sum_at t end f ≤ sum_below t.entries f
full-flow-few t w f flow (Exit i) h = omega (arith, full-flow-sum t w f flow, sum-below-part t.width i (λ j. sum_at t (Exit j) f) h)
full-flow-few t w f flow (Balancer b) h =
    let m : ℕ = t.entries + 2 * b in
    let g : ℕ → ℕ = λ u. when (ltb u m) (f u) in
    let same = sum-below-same (suc b) (λ c. sum_at t (Balancer c) g) (λ c. sum_at t (Balancer c) f) (λ c k.
    total-where-agree (is_end (Balancer c)) t.ends (Balancer 0) g f
    (λ u j e. let l = older t w c u j e in rw (lt-ltb u m (omega arith)) refl)) in
    omega (
      arith,
      at_most_once (suc b) t.ends g,
      sum-below-cut (length t.ends) m f (omega (arith, w.wires)),
      wires-sum t f flow b (omega arith),
      one_more b (λ c. sum_at t (Balancer c) f),
    )
