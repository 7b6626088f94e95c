-- Marks, 64 to a word.
use Rattle.cn_yard.proofs.Common.{◌≡◌, ℕ, zero, suc, ◌+◌, ◌*◌, ◌/◌, ◌%◌, ◌^◌, ◌-◌, ◌<◌, ◌≤◌, inl, inr, not, nat_eq, List, [], ◌∷◌, drop, get_or, refl, sym, ap, ◌∙◌, arith, Some, None, w64, position, bit_at, trailing_zeros, cases_lt, marked, nat_tests, get_or-drop, bit_at-trailing_zeros, bit_at-zero}
use Rattle.std.proofs.lemmas.List.Quantifiers.{position-Some}
use Rattle.std.proofs.lemmas.Nat.{div-mul-add, mod-mul-add}

-- a word that is 0 has no mark
no-word : (words : List ℕ) (n : ℕ) → get_or words (n / 64) 0 ≡ 0 → marked words n ≡ 0
no-word words n e = ap (λ (w : ℕ). bit_at w (n % 64)) e ∙ bit_at-zero (n % 64)

-- no word has a bit
pub none-marked : (words : List ℕ) → position (λ w. not (nat_eq w 0)) words ≡ None → (n : ℕ) → marked words n ≡ 0
none-marked words none n = no-word words n (zeros words none (n / 64))
  where
    zeros : (words : List ℕ) → position (λ w. not (nat_eq w 0)) words ≡ None → (i : ℕ) → get_or words i 0 ≡ 0
    zeros [] e i = refl
    zeros (w ∷ ws) e zero = grind (arith, nat_tests)
    zeros (w ∷ ws) e (suc i) = zeros ws (grind (arith, nat_tests)) i

-- the lowest bit of the first word with a bit
pub least-marked : (words : List ℕ) (at : ℕ) → position (λ w. not (nat_eq w 0)) words ≡ Some at → get_or words at 0 < 2 ^ 64
    → (marked words (at * 64 + trailing_zeros w64 (get_or words at 0)) ≡ 1)
    × ((n : ℕ) → n < at * 64 + trailing_zeros w64 (get_or words at 0) → marked words n ≡ 0)
least-marked words at found fits =
    let (within, here, before) = position-Some (λ w. not (nat_eq w 0)) words at 0 found in
    let w = get_or words at 0 in
    let some : 0 < w = grind (arith, nat_tests) in
    let (below, one, lower) = bit_at-trailing_zeros w64 w some fits in
    let t = trailing_zeros w64 w in
    let d : (at * 64 + t) / 64 ≡ at = div-mul-add at 64 t below in
    let m : (at * 64 + t) % 64 ≡ t = mod-mul-add at 64 t below in (
      rw (d, m) one,
      λ n h. elim (cases_lt (n / 64) at) [
        | inl l ↦ no-word words n (let z = before (n / 64) l in grind (arith, nat_tests))
        | inr l ↦
            let same : n / 64 ≡ at = omega arith in
            rw same (lower (n % 64) (omega arith))
      ],
    )

-- the marks of the words from one on
pub marked-drop : (words : List ℕ) (at n : ℕ) → marked (drop at words) n ≡ marked words (at * 64 + n)
marked-drop words at n =
    let word : at + n / 64 ≡ (at * 64 + n) / 64 = omega arith in
    let place : n % 64 ≡ (at * 64 + n) % 64 = omega arith in
    ap (λ (w : ℕ). bit_at w (n % 64)) (get_or-drop at words (n / 64) 0) ∙ (λ i. bit_at (get_or words (word i) 0) (place i))

-- none of them has a bit
pub none-from : (words : List ℕ) (at : ℕ) → ((n : ℕ) → marked (drop at words) n ≡ 0) → (n : ℕ) → 64 * at ≤ n → marked words n ≡ 0
none-from words at none n from =
    let same : at * 64 + (n - 64 * at) ≡ n = omega (arith, from) in
    ap (marked words) (sym same) ∙ sym (marked-drop words at (n - 64 * at)) ∙ none (n - 64 * at)

-- the least of them
pub least-from : (words : List ℕ) (at least : ℕ) → marked (drop at words) least ≡ 1 → ((n : ℕ) → n < least → marked (drop at words) n ≡ 0)
    → (64 * at ≤ at * 64 + least) × (marked words (at * 64 + least) ≡ 1)
    × ((n : ℕ) → 64 * at ≤ n → n < at * 64 + least → marked words n ≡ 0)
least-from words at least one lower = (
  omega arith,
  sym (marked-drop words at least) ∙ one,
  λ n from below.
      let same : at * 64 + (n - 64 * at) ≡ n = omega (arith, from) in
      ap (marked words) (sym same) ∙ sym (marked-drop words at (n - 64 * at)) ∙ lower (n - 64 * at) (omega (arith, from, below)),
)
