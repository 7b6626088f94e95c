-- Merger: of two rows with the step property it makes the tree's row of their sum. So Bitonic counts.
use Rattle.cn_spec.proofs.Common.{◌≡◌, ℕ, zero, suc, ◌+◌, ◌<◌, ◌≤◌, ◌^◌, List, [], ◌∷◌, refl, sym, ap, ap₂, ◌∙◌, inl, inr, subst, arith, sum, cases_lt, half, shares, IsStep, IsRow, evens, odds, interleave, layer, merge, tree, length, take, drop, bitonic, false, true, Bool, cond}
use Rattle.cn_spec.proofs.Rows.{part, evens-firsts, odds-seconds, firsts-interleave, seconds-interleave, sum-layer, evens-row, odds-row, layer_row, sum-evens-odds, front-row, back-row, sum-take-drop}
use Rattle.cn_spec.proofs.Shares.{tree-shares, tree-lengths, tree_is-step, step-tree, row_is-shares}

-- ---- the parts of the tree's rows

pub part-tree : (p : Bool) (level m : ℕ) → part p (tree (suc level) m) ≡ tree level (half m (cond p 1 0))
unfolding tree
part-tree false level m = firsts-interleave _ _ (tree-lengths level (half m 0) (half m 1))
part-tree true level m = seconds-interleave _ _ (tree-lengths level (half m 0) (half m 1))

evens-tree : (level m : ℕ) → evens (tree (suc level) m) ≡ tree level (half m 0)
evens-tree level m = evens-firsts (tree (suc level) m) ∙ part-tree false level m

odds-tree : (level m : ℕ) → odds (tree (suc level) m) ≡ tree level (half m 1)
odds-tree level m = odds-seconds (tree (suc level) m) ∙ part-tree true level m

-- ---- a layer over two of the tree's rows whose sums differ by at most one

-- entry by entry x has what y has, or one more
IsAbove : List ℕ → List ℕ → Type 0
IsAbove [] [] = Unit
IsAbove (a ∷ x) (b ∷ y) = (b ≤ a) × (a ≤ b + 1) × IsAbove x y
IsAbove _ _ = ⊥

above-interleave : (x y u v : List ℕ) → IsAbove x y → IsAbove u v → IsAbove (interleave x u) (interleave y v)
unfolding IsAbove
above-interleave [] [] u v p q = tt
above-interleave (a ∷ x) (b ∷ y) [] [] p q = tt
above-interleave (a ∷ x) (b ∷ y) (c ∷ u) (d ∷ v) p q = (p.0, p.1, (q.0, q.1, above-interleave x y u v p.2 q.2))
above-interleave [] (b ∷ y) u v p q = absurd p
above-interleave (a ∷ x) [] u v p q = absurd p
above-interleave _ _ _ _ p q = absurd q

above-tree : (level a b : ℕ) → b ≤ a → a ≤ b + 1 → IsAbove (tree level a) (tree level b)
unfolding IsAbove tree
above-tree zero a b p q = (p, q, tt)
above-tree (suc level) a b p q =
    above-interleave _ _ _ _ (above-tree level (half a 0) (half b 0) (omega arith) (omega arith))
    (above-tree level (half a 1) (half b 1) (omega arith) (omega arith))

-- either way round
layers-above : (x y : List ℕ) → IsAbove x y → (layer x y ≡ interleave x y) × (layer y x ≡ interleave x y)
unfolding IsAbove
layers-above [] [] p = (refl, refl)
layers-above (a ∷ x) (b ∷ y) p =
    let (there, back) = layers-above x y p.2 in (
      ap₂ (λ s t. s ∷ t) (omega arith) (ap₂ (λ s t. s ∷ t) (omega arith) there),
      ap₂ (λ s t. s ∷ t) (omega arith) (ap₂ (λ s t. s ∷ t) (omega arith) back),
    )
layers-above _ _ p = absurd p

pub layer-tree : (level a b : ℕ) → a ≤ b + 1 → b ≤ a + 1 → layer (tree level a) (tree level b) ≡ tree (suc level) (a + b)
unfolding tree
layer-tree level a b p q = elim (cases_lt a b) [ inl h ↦ below h | inr h ↦ above h ]
  where
    above : b ≤ a → layer (tree level a) (tree level b) ≡ tree (suc level) (a + b)
    above h =
        (layers-above _ _ (above-tree level a b h p)).0
        ∙ ap₂ (λ s t. interleave (tree level s) (tree level t)) (omega arith) (omega arith)

    below : a < b → layer (tree level a) (tree level b) ≡ tree (suc level) (a + b)
    below h =
        (layers-above _ _ (above-tree level b a (omega arith) q)).1
        ∙ ap₂ (λ s t. interleave (tree level s) (tree level t)) (omega arith) (omega arith)

-- ---- the law

pub merge-tree : (level a b : ℕ) → merge level (tree level a) (tree level b) ≡ tree (suc level) (a + b)
unfolding merge tree
merge-tree zero a b = refl
merge-tree (suc level) a b =
    ap₂ layer
    (ap₂ (merge level) (evens-tree level a) (odds-tree level b) ∙ merge-tree level (half a 0) (half b 1))
    (ap₂ (merge level) (odds-tree level a) (evens-tree level b) ∙ merge-tree level (half a 1) (half b 0))
    ∙ layer-tree (suc level) (half a 0 + half b 1) (half a 1 + half b 0) (omega arith) (omega arith)
    ∙ ap (tree (suc (suc level))) (omega arith)

merge-step-tree : (level : ℕ) (x y : List ℕ) → IsRow level x → IsRow level y → IsStep x → IsStep y
    → merge level x y ≡ tree (suc level) (sum x + sum y)
merge-step-tree level x y e f s t = ap₂ (merge level) (step-tree level x e s) (step-tree level y f t) ∙ merge-tree level (sum x) (sum y)

pub merge-is_step : (level : ℕ) (x y : List ℕ) → IsRow level x → IsRow level y → IsStep x → IsStep y → IsStep (merge level x y)
merge-is_step level x y e f s t = subst IsStep (sym (merge-step-tree level x y e f s t)) (tree_is-step (suc level) (sum x + sum y))

pub merge-shares : (level : ℕ) (x y : List ℕ) → IsRow level x → IsRow level y → IsStep x → IsStep y
    → merge level x y ≡ shares (sum x + sum y) (2 ^ suc level)
merge-shares level x y e f s t = merge-step-tree level x y e f s t ∙ tree-shares (suc level) (sum x + sum y)

-- ---- length and sum

pub merge-row : (level : ℕ) (x y : List ℕ) → IsRow level x → IsRow level y → IsRow (suc level) (merge level x y)
unfolding merge
merge-row zero x y e f = layer_row zero x y e f
merge-row (suc level) x y e f =
    layer_row (suc level) _ _
    (merge-row level (evens x) (odds y) (evens-row level x e) (odds-row level y f))
    (merge-row level (odds x) (evens y) (odds-row level x e) (evens-row level y f))

pub sum-merge : (level : ℕ) (x y : List ℕ) → IsRow level x → IsRow level y → sum (merge level x y) ≡ sum x + sum y
unfolding merge
sum-merge zero x y e f = sum-layer x y (e ∙ sym f)
sum-merge (suc level) x y e f =
    let ex = evens-row level x e in
    let ox = odds-row level x e in
    let ey = evens-row level y f in
    let oy = odds-row level y f in
    omega (
      arith,
      sum-layer (merge level (evens x) (odds y)) (merge level (odds x) (evens y))
          (merge-row level _ _ ex oy ∙ sym (merge-row level _ _ ox ey)),
      sum-merge level (evens x) (odds y) ex oy,
      sum-merge level (odds x) (evens y) ox ey,
      sum-evens-odds level x e,
      sum-evens-odds level y f,
    )

-- Bitonic: its counts are the shares of the sum of its row.

pub single-is_step : (x : List ℕ) → length x ≡ 1 → IsStep x
single-is_step x e = record { no_less = λ i j l h. absurd (omega arith); at_most_one_more = λ i j l h. absurd (omega arith) }

-- a row with the step property and this sum
pub row_steps : (level m : ℕ) (x : List ℕ) → IsRow level x → sum x ≡ m → IsStep x → x ≡ shares m (2 ^ level)
row_steps level m x e f s = row_is-shares x s ∙ ap₂ shares f e

pub bitonic-row : (level : ℕ) (x : List ℕ) → IsRow level x → IsRow level (bitonic level x)
unfolding bitonic
bitonic-row zero x e = e
bitonic-row (suc level) x e = merge-row level _ _ (bitonic-row level _ (front-row level x e)) (bitonic-row level _ (back-row level x e))

pub sum-bitonic : (level : ℕ) (x : List ℕ) → IsRow level x → sum (bitonic level x) ≡ sum x
unfolding bitonic
sum-bitonic zero x e = refl
sum-bitonic (suc level) x e =
    let f = front-row level x e in
    let g = back-row level x e in
    omega (
      arith,
      sum-merge level (bitonic level (take (2 ^ level) x)) (bitonic level (drop (2 ^ level) x)) (bitonic-row level _ f)
          (bitonic-row level _ g),
      sum-bitonic level (take (2 ^ level) x) f,
      sum-bitonic level (drop (2 ^ level) x) g,
      sum-take-drop (2 ^ level) x,
    )

pub bitonic-is_step : (level : ℕ) (x : List ℕ) → IsRow level x → IsStep (bitonic level x)
unfolding bitonic
bitonic-is_step zero x e = single-is_step x e
bitonic-is_step (suc level) x e =
    let f = front-row level x e in
    let g = back-row level x e in
    merge-is_step level _ _ (bitonic-row level _ f) (bitonic-row level _ g) (bitonic-is_step level _ f) (bitonic-is_step level _ g)

pub bitonic-shares : (level : ℕ) (x : List ℕ) → IsRow level x → bitonic level x ≡ shares (sum x) (2 ^ level)
bitonic-shares level x e = row_steps level (sum x) (bitonic level x) (bitonic-row level x e) (sum-bitonic level x e)
    (bitonic-is_step level x e)

-- what the laws say
pub ruleset merger_laws = (merge-is_step, merge-shares, merge-row, sum-merge)

pub ruleset bitonic_laws = (bitonic-shares, bitonic-is_step, sum-bitonic)
