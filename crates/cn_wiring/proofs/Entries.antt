-- A draft with no balancer.
use Rattle.cn_wiring.proofs.Common.{◌≡◌, ℕ, inl, inr, [], ◌∷◌, get_or, replicate, refl, sym, ◌∙◌, arith, Option, Some, None, range_with_len, cases_lt, get_or_past, length-replicate, get_or-replicate, times, entries_alone, loose, HasLevel, times-inside, times-outside}

module _ (n : ℕ) where
  pub loose-entries : (w : ℕ) → loose (entries_alone n) w ≡ times w (range_with_len 0 n)
  loose-entries w =
      elim (cases_lt w n) [
        | inl l ↦ rw (get_or-replicate {A = Option ℕ} n w None (Some 0) l, times-inside w 0 n (omega arith) (omega arith))
        | inr g ↦
            rw (
              get_or_past {X = Option ℕ} (replicate n None) w (Some 0) (omega (arith, length-replicate {A = Option ℕ} n None)),
              times-outside w 0 n (inr (omega arith)),
            )
      ]

  ends-none : (u : ℕ) → get_or (entries_alone n).ends u None ≡ None
  ends-none u =
      elim (cases_lt u n) [
        | inl l ↦ get_or-replicate {A = Option ℕ} n u None None l
        | inr g ↦ get_or_past {X = Option ℕ} (replicate n None) u None (omega (arith, length-replicate {A = Option ℕ} n None))
      ]

  pub level-entries : (w : ℕ) → HasLevel (entries_alone n) 0 w
  level-entries w [] p = refl
  level-entries w (u ∷ us) p = let e : None ≡ Some p.0.0 = sym (ends-none u) ∙ p.0.1 in absurd (cc)
