-- Block: it lowers by one the level of the chains that have the step property. So Periodic counts.
use Rattle.cn_spec.proofs.Common.{◌≡◌, ℕ, zero, suc, ◌+◌, ◌*◌, ◌/◌, ◌≤◌, ◌<◌, ◌^◌, ◌↔◌, List, length, map, get_or, sym, ap, ◌∙◌, inl, inr, subst, le_refl, arith, pow-suc, le-div_iff_mul-le, div-div-eq-div-mul, mul_comm, fill_by_all, get_or-map-range_with_len, length-map-range_with_len, pow_pos, range_with_len, IsStep, IsRow, chain, HasStepChains, [], ◌∷◌, refl, ap₂, sum, half, layer, a_cochain, b_cochain, block, tree, shares, blocks, periodic, false, Bool, true, cond}
use Rattle.cn_spec.proofs.Shares.{even-or-odd, step-tree, tree_is-step, sum-tree}
use Rattle.cn_spec.proofs.Rows.{part, length-part, get-or-part, part-row, same-part, part-is_step, sum-layer, layer_row, sum_pairs, a_row, b-row, sum-cochains, part-a, part-b}
use Rattle.cn_spec.proofs.Merger.{single-is_step, part-tree, layer-tree, row_steps}

-- Chains by halves, the lowest bit first; and by place.

-- each chain of level i has the step property, by halves
abbrev pub StepChains : ℕ → List ℕ → Type 0
StepChains zero x = IsStep x
StepChains (suc i) x = StepChains i (part false x) × StepChains i (part true x)

-- ---- a chain of a row is a chain of its even or of its odd entries

fewer : (n i : ℕ) → n * 2 / 2 ^ suc i ≡ n / 2 ^ i
fewer n i = ap (λ k. n * 2 / k) (pow-suc 2 i ∙ mul_comm (2 ^ i) 2) ∙ sym (div-div-eq-div-mul (n * 2) 2 (2 ^ i))
    ∙ ap (λ k. k / 2 ^ i) (omega arith)

-- two lists by place with as many places, equal at each
same_entries : (f g : ℕ → ℕ) (m n : ℕ) → m ≡ n → ((j : ℕ) → j < n → f j ≡ g j) → map f (range_with_len 0 m) ≡ map g (range_with_len 0 n)
same_entries f g m n e h = fill_by_all g (map f (range_with_len 0 m)) n 0 (length-map-range_with_len f 0 m ∙ e)
    (λ k l. get_or-map-range_with_len f 0 m k k 0 (omega arith) (omega arith) ∙ h k l)

-- its places are within the row
chain-fits : (n i s j : ℕ) → s < 2 ^ i → j < n / 2 ^ i → s + 2 ^ i * j < n
chain-fits n i s j l h =
    let p : (j + 1) * 2 ^ i ≤ n = (le-div_iff_mul-le (pow_pos i)).0 (omega arith) in
    omega arith

chain-part : (p : Bool) (i s n : ℕ) (x : List ℕ) → s < 2 ^ i → length x ≡ n * 2
    → chain (suc i) (s + s + cond p 1 0) x ≡ chain i s (part p x)
chain-part p i s n x l e =
    same_entries _ _ _ _ (ap (λ k. k / 2 ^ suc i) e ∙ fewer n i ∙ ap (λ k. k / 2 ^ i) (omega (arith, length-part p x)))
    (λ j h. ap (λ k. get_or x k 0) (omega (arith, ap (λ k. k * j) (pow-suc 2 i)))
    ∙ sym (get-or-part p x (s + 2 ^ i * j) (omega (arith, chain-fits (length (part p x)) i s j l h, length-part p x))))

chain-whole : (x : List ℕ) (r : ℕ) → r < 1 → chain 0 r x ≡ x
chain-whole x r h = sym (fill_by_all (λ j. get_or x (r + 2 ^ 0 * j) 0) x (length x / 2 ^ 0) 0 (omega arith)
    (λ k l. ap (λ n. get_or x n 0) (omega arith)))

-- ---- both say the same

pub by_place : (level i : ℕ) (x : List ℕ) → i ≤ level → IsRow level x → StepChains i x → HasStepChains i x
by_place level zero x l e h r below = subst IsStep (sym (chain-whole x r below)) h
by_place zero (suc i) x l e h r below = absurd (omega arith)
by_place (suc level) (suc i) x l e h r below =
    let n : length x ≡ 2 ^ level * 2 = e ∙ pow-suc 2 level in
    let low : r / 2 < 2 ^ i = omega (arith, pow-suc 2 i) in
    elim (even-or-odd r) [
      | inl p ↦ let q : r ≡ r / 2 + r / 2 + 0 = omega (arith, p) in
          subst IsStep (sym (ap (λ k. chain (suc i) k x) q ∙ chain-part false i (r / 2) (2 ^ level) x low n))
          (by_place level i (part false x) (omega arith) (part-row false level x e) h.0 (r / 2) low)
      | inr p ↦ subst IsStep (sym (ap (λ k. chain (suc i) k x) p ∙ chain-part true i (r / 2) (2 ^ level) x low n))
          (by_place level i (part true x) (omega arith) (part-row true level x e) h.1 (r / 2) low)
    ]

pub by_halves : (level i : ℕ) (x : List ℕ) → i ≤ level → IsRow level x → HasStepChains i x → StepChains i x
by_halves level zero x l e h = subst IsStep (chain-whole x 0 (omega arith)) (h 0 (omega arith))
by_halves zero (suc i) x l e h = absurd (omega arith)
by_halves (suc level) (suc i) x l e h =
    let n : length x ≡ 2 ^ level * 2 = e ∙ pow-suc 2 level in (
      by_halves level i (part false x) (omega arith) (part-row false level x e)
          (λ s k. subst IsStep (chain-part false i s (2 ^ level) x k n) (h (s + s + 0) (omega (arith, pow-suc 2 i)))),
      by_halves level i (part true x) (omega arith) (part-row true level x e)
          (λ s k. subst IsStep (chain-part true i s (2 ^ level) x k n) (h (s + s + 1) (omega (arith, pow-suc 2 i)))),
    )

-- ---- the highest level and the lowest

pub all-step-chains : (level : ℕ) (x : List ℕ) → IsRow level x → StepChains level x
all-step-chains zero x e = single-is_step x e
all-step-chains (suc level) x e = (
  all-step-chains level (part false x) (part-row false level x e),
  all-step-chains level (part true x) (part-row true level x e),
)

pub single-chains : (level : ℕ) (x : List ℕ) → IsRow level x → HasStepChains level x
single-chains level x e = by_place level level x (le_refl level) e (all-step-chains level x e)

pub whole-chain : (x : List ℕ) → HasStepChains 0 x ↔ IsStep x
whole-chain x = (
  λ h. subst IsStep (chain-whole x 0 (omega arith)) (h 0 (omega arith)),
  λ s r below. subst IsStep (sym (chain-whole x r below)) s,
)

-- ---- length and sum

pub block-row : (level : ℕ) (x : List ℕ) → IsRow level x → IsRow level (block level x)
unfolding block
block-row zero x e = e
block-row (suc level) x e = layer_row level _ _ (block-row level (a_cochain x) (a_row level x e))
    (block-row level (b_cochain x) (b-row level x e))

pub sum-block : (level : ℕ) (x : List ℕ) → IsRow level x → sum (block level x) ≡ sum x
unfolding block
sum-block zero x e = refl
sum-block (suc level) x e =
    let a = a_row level x e in
    let b = b-row level x e in
    omega (
      arith,
      sum-layer (block level (a_cochain x)) (block level (b_cochain x)) (block-row level _ a ∙ sym (block-row level _ b)),
      sum-block level (a_cochain x) a,
      sum-block level (b_cochain x) b,
      sum-cochains level x e,
    )

-- ---- the even and the odd outputs of a layer are the halves of the sums

halves : ℕ → List ℕ → List ℕ → List ℕ
halves p (a ∷ x) (b ∷ y) = half (a + b) p ∷ halves p x y
halves p _ _ = []

firsts-layer : (x y : List ℕ) → part false (layer x y) ≡ halves 0 x y
unfolding halves
firsts-layer (a ∷ x) (b ∷ y) = ap (λ r. half (a + b) 0 ∷ r) (firsts-layer x y)
firsts-layer _ _ = refl

seconds-layer : (x y : List ℕ) → part true (layer x y) ≡ halves 1 x y
unfolding halves
seconds-layer (a ∷ x) (b ∷ y) = ap (λ r. half (a + b) 1 ∷ r) (seconds-layer x y)
seconds-layer _ _ = refl

part-halves : (q : Bool) (p : ℕ) (x y : List ℕ) → part q (halves p x y) ≡ halves p (part q x) (part q y)
unfolding halves
part-halves q p (a ∷ []) [] = refl
part-halves false p (a ∷ d ∷ x) (b ∷ c ∷ y) = ap (λ r. half (a + b) p ∷ r) (part-halves false p x y)
part-halves true p (a ∷ d ∷ x) (b ∷ c ∷ y) = ap (λ r. half (d + c) p ∷ r) (part-halves true p x y)
part-halves q p _ _ = refl

length-halves : (p : ℕ) (x y : List ℕ) → length x ≡ length y → length (halves p x y) ≡ length x
unfolding halves
length-halves p [] y e = refl
length-halves p (a ∷ x) [] e = absurd (omega arith)
length-halves p (a ∷ x) (b ∷ y) e = ap suc (length-halves p x y (omega arith))

get-or-halves : (p : ℕ) (x y : List ℕ) (i : ℕ) → length x ≡ length y → get_or (halves p x y) i 0 ≡ half (get_or x i 0 + get_or y i 0) p
unfolding halves
get-or-halves p [] [] i e = omega arith
get-or-halves p (a ∷ x) (b ∷ y) zero e = refl
get-or-halves p (a ∷ x) (b ∷ y) (suc i) e = get-or-halves p x y i (omega arith)
get-or-halves p _ _ i e = absurd (omega arith)

-- the half of the sum of two rows with the step property has it
halves-is_step : (p : ℕ) (x y : List ℕ) → length x ≡ length y → IsStep x → IsStep y → IsStep (halves p x y)
halves-is_step p x y e s t = record {
  no_less = λ i j l h. let k : j < length x = omega (arith, length-halves p x y e) in
      omega (arith, get-or-halves p x y i e, get-or-halves p x y j e, s.no_less i j l k, t.no_less i j l (omega arith));
  at_most_one_more = λ i j l h. let k : j < length x = omega (arith, length-halves p x y e) in
      omega (arith, get-or-halves p x y i e, get-or-halves p x y j e, s.at_most_one_more i j l k, t.at_most_one_more i j l (omega arith));
}

chains-halves : (i p : ℕ) (x y : List ℕ) → length x ≡ length y → StepChains i x → StepChains i y → StepChains i (halves p x y)
chains-halves zero p x y e s t = halves-is_step p x y e s t
chains-halves (suc i) p x y e s t = rw (part-halves false p x y, part-halves true p x y) (
  chains-halves i p (part false x) (part false y) (same-part false x y e) s.0 t.0,
  chains-halves i p (part true x) (part true y) (same-part true x y e) s.1 t.1,
)

-- ---- the cochains have the step chains of one level less

chains-a : (i : ℕ) (x : List ℕ) → StepChains (suc (suc i)) x → StepChains (suc i) (a_cochain x)
chains-a i x h = (subst (StepChains i) (sym (part-a false x)) h.0.0, subst (StepChains i) (sym (part-a true x)) h.1.1)

chains-b : (i : ℕ) (x : List ℕ) → StepChains (suc (suc i)) x → StepChains (suc i) (b_cochain x)
chains-b i x h = (subst (StepChains i) (sym (part-b false x)) h.1.0, subst (StepChains i) (sym (part-b true x)) h.0.1)

-- and those of level 1 they keep
steps-a : (x : List ℕ) → StepChains 1 x → StepChains 1 (a_cochain x)
steps-a x h = rw (part-a false x, part-a true x) (part-is_step false _ h.0, part-is_step true _ h.1)

steps-b : (x : List ℕ) → StepChains 1 x → StepChains 1 (b_cochain x)
steps-b x h = rw (part-b false x, part-b true x) (part-is_step false _ h.1, part-is_step true _ h.0)

-- then their sums differ by at most one
sum-part : (p : Bool) (level : ℕ) (x : List ℕ) → IsRow (suc level) x → IsStep x
    → sum (part p x) ≡ half (sum x) (cond p 1 0)
sum-part p level x e s = ap (λ r. sum (part p r)) (step-tree (suc level) x e s) ∙ ap sum (part-tree p level (sum x))
    ∙ sum-tree level (half (sum x) (cond p 1 0))

-- the sum of a row whose even entries are those of f, and whose odd ones are those of s
sum-parts : (level : ℕ) (x f s : List ℕ) → IsRow (suc level) x → IsRow (suc level) f → IsRow (suc level) s
    → part false x ≡ part false f → part true x ≡ part true s → IsStep f → IsStep s
    → sum x ≡ half (sum f) 0 + half (sum s) 1
sum-parts level x f s e d g p q h k =
    omega (arith, sum_pairs level x e, ap sum p, ap sum q, sum-part false level f d h, sum-part true level s g k)

-- ---- the law

-- a layer over two rows whose sums differ by at most one
near-layer : (level : ℕ) (x y : List ℕ) → IsRow level x → IsRow level y → IsStep x → IsStep y → sum x ≤ sum y + 1 → sum y ≤ sum x + 1
    → IsStep (layer x y)
near-layer level x y e f s t p q =
    subst IsStep (sym (ap₂ layer (step-tree level x e s) (step-tree level y f t) ∙ layer-tree level (sum x) (sum y) p q))
    (tree_is-step (suc level) (sum x + sum y))

-- one balancer, over any two entries
pair-is_step : (x y : List ℕ) → length x ≡ 1 → length y ≡ 1 → IsStep (layer x y)
unfolding tree
pair-is_step (a ∷ []) (b ∷ []) e f = tree_is-step 1 (a + b)
pair-is_step _ _ e f = absurd (omega arith)

pub block-chains : (level i : ℕ) (x : List ℕ) → i < level → IsRow level x → StepChains (suc i) x → StepChains i (block level x)
unfolding block
block-chains zero i x l e h = absurd (omega arith)
block-chains (suc zero) zero x l e h = pair-is_step (a_cochain x) (b_cochain x) (a_row 0 x e) (b-row 0 x e)
block-chains (suc (suc level)) zero x l e h =
    let a = a_row (suc level) x e in
    let b = b-row (suc level) x e in
    let f = part-row false (suc level) x e in
    let g = part-row true (suc level) x e in
    let m = sum-block (suc level) _ a ∙ sum-parts level _ _ _ a f g (part-a false x) (part-a true x) h.0 h.1 in
    let n = sum-block (suc level) _ b ∙ sum-parts level _ _ _ b g f (part-b false x) (part-b true x) h.1 h.0 in
    near-layer (suc level) (block (suc level) (a_cochain x)) (block (suc level) (b_cochain x)) (block-row (suc level) _ a)
    (block-row (suc level) _ b) (block-chains (suc level) zero (a_cochain x) (omega arith) a (steps-a x h))
    (block-chains (suc level) zero (b_cochain x) (omega arith) b (steps-b x h)) (omega arith) (omega arith)
block-chains (suc level) (suc i) x l e h =
    let a = a_row level x e in
    let b = b-row level x e in
    let z = block level (a_cochain x) in
    let z' = block level (b_cochain x) in
    let s = block-chains level i (a_cochain x) (omega arith) a (chains-a i x h) in
    let t = block-chains level i (b_cochain x) (omega arith) b (chains-b i x h) in
    let same = block-row level (a_cochain x) a ∙ sym (block-row level (b_cochain x) b) in
    rw (firsts-layer z z', seconds-layer z z') (chains-halves i 0 z z' same s t, chains-halves i 1 z z' same s t)

pub block-step-chains : (level i : ℕ) (x : List ℕ) → i < level → IsRow level x → HasStepChains (suc i) x → HasStepChains i (block level x)
block-step-chains level i x l e h =
    by_place level i (block level x) (omega arith) (block-row level x e)
    (block-chains level i x l e (by_halves level (suc i) x (omega arith) e h))

-- ---- the block of two wires

pub block-one : (a b : ℕ) → block 1 (a ∷ b ∷ []) ≡ half (a + b) 0 ∷ half (a + b) 1 ∷ []
unfolding block
block-one a b = refl

-- Periodic: its counts are the shares of the sum of its row.

pub blocks-row : (n level : ℕ) (x : List ℕ) → IsRow level x → IsRow level (blocks n level x)
unfolding blocks
blocks-row zero level x e = e
blocks-row (suc n) level x e = blocks-row n level (block level x) (block-row level x e)

pub sum-blocks : (n level : ℕ) (x : List ℕ) → IsRow level x → sum (blocks n level x) ≡ sum x
unfolding blocks
sum-blocks zero level x e = refl
sum-blocks (suc n) level x e = sum-blocks n level (block level x) (block-row level x e) ∙ sum-block level x e

blocks-is_step : (n level : ℕ) (x : List ℕ) → n ≤ level → IsRow level x → StepChains n x → IsStep (blocks n level x)
unfolding blocks
blocks-is_step zero level x l e h = h
blocks-is_step (suc n) level x l e h = blocks-is_step n level (block level x) (omega arith) (block-row level x e)
    (block-chains level n x l e h)

pub periodic-row : (level : ℕ) (x : List ℕ) → IsRow level x → IsRow level (periodic level x)
unfolding periodic
periodic-row level x e = blocks-row level level x e

pub sum-periodic : (level : ℕ) (x : List ℕ) → IsRow level x → sum (periodic level x) ≡ sum x
unfolding periodic
sum-periodic level x e = sum-blocks level level x e

pub periodic-is_step : (level : ℕ) (x : List ℕ) → IsRow level x → IsStep (periodic level x)
unfolding periodic
periodic-is_step level x e = blocks-is_step level level x (le_refl level) e (all-step-chains level x e)

pub periodic-shares : (level : ℕ) (x : List ℕ) → IsRow level x → periodic level x ≡ shares (sum x) (2 ^ level)
periodic-shares level x e = row_steps level (sum x) (periodic level x) (periodic-row level x e) (sum-periodic level x e)
    (periodic-is_step level x e)

-- what the laws say
pub ruleset chain_laws = (single-chains, whole-chain)

pub ruleset block_laws = (block-step-chains, block-one, block-row, sum-block)

pub ruleset periodic_laws = (periodic-shares, periodic-is_step, sum-periodic)
