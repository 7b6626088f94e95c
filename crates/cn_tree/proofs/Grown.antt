-- A tree from its root and the two trees on the root's outputs.
use Rattle.std.proofs.Common.{◌≡◌, ℕ, zero, suc, ◌+◌, ◌-◌, ◌^◌, ◌<◌, ◌≤◌, List, [], ◌∷◌, length, map, refl, sym, ap, ap₂, ◌∙◌, arith}
use Rattle.std.proofs.lemmas.Nat.{pow_pos}
use Rattle.cn_spec.specs.Networks.{IsRow, interleave, tree}
use Rattle.cn_spec.specs.Step.{half}
use Rattle.cn_spec.specs.declared.limits.TheConstants.{MOST_BALANCERS}
use Rattle.cn_spec.proofs.CallerLemmas.{length-interleave, map-interleave, power_below, times-append, times-interleave, tree-turn}
use Rattle.cn_tables.specs.Plan.{Plan, AllLoose, Builds, IsFlow, next_wire, output, with_balancer}
use Rattle.cn_tree.specs.Order.{tree_made}
use Rattle.cn_wiring.proofs.CallerLemmas.{Builds-beside, Builds-giving, Builds-loose, Builds-loose_with, Builds-sized, Builds-then}

-- ---- sizes

pub room_for-root : (k level : ℕ) → 0 < level → k + (2 ^ level - 1) ≤ MOST_BALANCERS → k < MOST_BALANCERS
room_for-root k level h room = omega (arith, power_below level h, pow_pos (level - 1))

-- ---- a tree of more than one wire: the root, the tree on its output 0, and the tree on its output 1

module _ {d e : Plan} {wire first second level : ℕ} (more : 0 < level) (there : AllLoose d (wire ∷ []))
    (root : Builds d e (wire ∷ []) (first ∷ second ∷ []) 1 1) where
  outputs-loose : AllLoose e (first ∷ second ∷ [])
  outputs-loose = Builds-loose_with [] there root

  pub first-loose : AllLoose e (first ∷ [])
  first-loose w = let h = outputs-loose w in omega (arith, times-append w (first ∷ []) (second ∷ []))

  pub room_for-first : d.balancers + (2 ^ level - 1) ≤ MOST_BALANCERS → e.balancers + (2 ^ (level - 1) - 1) ≤ MOST_BALANCERS
  room_for-first room = let h = root.balancers in omega (arith, power_below level more, pow_pos (level - 1))

  module _ {g : Plan} {even : List ℕ} (one : Builds e g (first ∷ []) even (level - 1) (2 ^ (level - 1) - 1)) where
    pub second-loose : AllLoose g (second ∷ [])
    second-loose = Builds-loose (second ∷ []) outputs-loose one

    pub room_for-second : d.balancers + (2 ^ level - 1) ≤ MOST_BALANCERS → g.balancers + (2 ^ (level - 1) - 1) ≤ MOST_BALANCERS
    room_for-second room = let h = root.balancers in let k = one.balancers in omega (arith, power_below level more, pow_pos (level - 1))

    module _ {h : Plan} {odd : List ℕ} (two : Builds g h (second ∷ []) odd (level - 1) (2 ^ (level - 1) - 1)) where
      pub tree-built : length even ≡ length odd → Builds d h (wire ∷ []) (interleave even odd) level (2 ^ level - 1)
      tree-built same =
          Builds-sized level (2 ^ level - 1) (omega arith) (omega (arith, power_below level more, pow_pos (level - 1)))
          (Builds-giving (interleave even odd) (λ w. times-interleave w even odd same ∙ sym (times-append w even odd))
          (Builds-then root (Builds-beside outputs-loose one two)))

      pub tree-flow : (f : ℕ → ℕ) → IsFlow h f
          → ((v : ℕ → ℕ) → IsFlow e v → (v first ≡ half (v wire) 0) × (v second ≡ half (v wire) 1))
          → ((v : ℕ → ℕ) → IsFlow g v → map v even ≡ tree (level - 1) (v first))
          → ((v : ℕ → ℕ) → IsFlow h v → map v odd ≡ tree (level - 1) (v second))
          → map f (interleave even odd) ≡ tree level (f wire)
      tree-flow f flow halves evens odds =
          let split = halves f (one.flow f (two.flow f flow)) in
          map-interleave f even odd
          ∙ ap₂ interleave (evens f (two.flow f flow) ∙ ap (tree (level - 1)) split.0) (odds f flow ∙ ap (tree (level - 1)) split.1)
          ∙ sym (tree-turn level (f wire) more)

-- ---- the order

pub made_none : (d : Plan) (wire : ℕ) → tree_made 0 d wire ≡ (d, wire ∷ [])
unfolding tree_made
made_none d wire = refl

made-suc : (d : Plan) (wire level : ℕ) {e g h : Plan} {first second : ℕ} {even odd : List ℕ} → e ≡ with_balancer d (wire ∷ [])
    → first ≡ output d d.balancers 0 → second ≡ output d d.balancers 1
    → tree_made level e first ≡ (g, even) → tree_made level g second ≡ (h, odd) → tree_made (suc level) d wire ≡ (h, interleave even odd)
unfolding tree_made
made-suc d wire level root f s one two =
    let one' = rw (root, f) at one in
    let two' = rw s at two in
    rw (one', two') refl

pub made_more : (d : Plan) (wire level : ℕ) {e g h : Plan} {first second : ℕ} {even odd : List ℕ} → 0 < level
    → e ≡ with_balancer d (wire ∷ [])
    → (first ≡ next_wire d) × (second ≡ first + 1)
    → tree_made (level - 1) e first ≡ (g, even) → tree_made (level - 1) g second ≡ (h, odd)
    → tree_made level d wire ≡ (h, interleave even odd)
made_more d wire zero more root wires one two = absurd (omega arith)
made_more d wire (suc level) more root wires one two =
    let less : suc level - 1 ≡ level = omega arith in
    made-suc d wire level root (omega arith) (omega arith) (rw less at one) (rw less at two)

-- ---- rows

pub tree-row : (level : ℕ) (even odd : List ℕ) → 0 < level → IsRow (level - 1) even → IsRow (level - 1) odd
    → IsRow level (interleave even odd)
tree-row level even odd more p q = omega (arith, length-interleave even odd (omega arith), power_below level more)
