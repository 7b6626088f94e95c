-- The tokens that leave on one output.
use Rattle.std.proofs.Common.{◌≡◌, ℕ, zero, suc, ◌%◌, ◌<◌, ◌==◌, inl, inr, arith}
use Rattle.std.proofs.lemmas.Bool.{cases_eq, eq-eqb, ne_eqb}
use Rattle.cn_spec.specs.Step.{half}
use Rattle.cn_spec.specs.Sums.{sum_below, when}

pub half_counts : (count output : ℕ) → output < 2 → half count output ≡ sum_below count (λ number. when ((number % 2) == output) 1)
unfolding sum_below
half_counts zero output h = omega arith
half_counts (suc count) output h =
    let before = half_counts count output h in
    elim (cases_eq (count % 2) output) [
      | inl same ↦ rw (eq-eqb (count % 2) output same) (omega arith)
      | inr other ↦ rw (ne_eqb (count % 2) output other) (omega arith)
    ]
