use Rattle.std.proofs.Common.{◌≡◌, ℕ, List, ◌++◌, ◌∷◌, [], append_assoc, arith, rules}
use Rattle.cn_tree.proofs.counting_tree.interleave.Goals as goal

-- a row with two more wires, and then the rest
two-more : (row two rest all : List ℕ) (a b : ℕ) → row ++ a ∷ b ∷ rest ≡ all
    → (one : List ℕ) × (two ≡ one ++ b ∷ []) × (one ≡ row ++ a ∷ []) → two ++ rest ≡ all
two-more row two rest all a b whole (one, second, first) = rw (second, first) (simp append_assoc whole)

pub loop-a-preserved : goal.loop-a-preserved
loop-a-preserved c =
    let before = rw (c.in-Some.ensures.steps.0, c.in-Some.ensures.steps.1) at c.loop-a.invariant in
    record { same = omega arith; whole = two-more c.loop-a.row.items _ _ _ c.in-Some.a.now c.in-Some.b.now before.whole (search rules) }
