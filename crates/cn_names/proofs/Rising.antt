-- What a sort of pairs leaves.
use Rattle.cn_names.proofs.Common.{◌≡◌, ℕ, ◌<◌, ◌≤◌, ◌⊎◌, false, List, get_or, inl, inr, refl, arith, IsSorted, ranks_by, sorted_far, IsRising}
use Rattle.std.proofs.lemmas.Cmp.{nat_cmp_total, on_total, then_total, ranked}
use Rattle.std.specs.declared.cmp.Ordering.{Ordering}
use Rattle.std.specs.declared.cmp.Ordering.TheVariants.{Less, Equal, Greater}
use Rattle.std.specs.Ordering.{MatchOrdering, is_lt, nat_cmp, ordering_then}

-- the order of pairs of numbers
abbrev pub pair_cmp : ℕ × ℕ → ℕ × ℕ → Ordering
pair_cmp a b = ordering_then (nat_cmp a.0 b.0) (nat_cmp a.1 b.1)

abbrev InOrder : ℕ × ℕ → ℕ × ℕ → Type 0
InOrder a b = (a.0 < b.0) ⊎ ((a.0 ≡ b.0) × (a.1 ≤ b.1))

-- what the two comparisons say, where the later pair is not less
by_parts : (a b : ℕ × ℕ) (r s : Ordering) → MatchOrdering r (b.0 < a.0) (b.0 ≡ a.0) (a.0 < b.0)
    → MatchOrdering s (b.1 < a.1) (b.1 ≡ a.1) (a.1 < b.1) → is_lt (ordering_then r s) ≡ false → InOrder a b
by_parts a b Less s first second not_less = absurd (cc)
by_parts a b Equal Less first second not_less = absurd (cc)
by_parts a b Equal Equal first second not_less = inr (omega arith, omega arith)
by_parts a b Equal Greater first second not_less = inr (omega arith, omega arith)
by_parts a b Greater s first second not_less = inl first

pub rising-from_sorted : (grants : List (ℕ × ℕ)) → IsSorted pair_cmp grants → IsRising grants
rising-from_sorted grants sorted i j d before within =
    let order = ranks_by (then_total (on_total (λ (p : ℕ × ℕ). p.0) nat_cmp_total) (on_total (λ (p : ℕ × ℕ). p.1) nat_cmp_total))
    (λ (p : ℕ × ℕ). p) in
    let a = get_or grants i d in
    let b = get_or grants j d in
    by_parts a b (nat_cmp b.0 a.0) (nat_cmp b.1 a.1) (ranked b.0 a.0 (nat_cmp b.0 a.0) refl) (ranked b.1 a.1 (nat_cmp b.1 a.1) refl)
    (sorted_far (λ x y. is_lt (pair_cmp x y)) order grants sorted i j d (omega arith) within)
