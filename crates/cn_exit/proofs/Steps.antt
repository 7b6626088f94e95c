-- Rows that never rise, and the step property by their ends.
use Rattle.std.proofs.Common.{◌≡◌, ℕ, zero, suc, ◌+◌, ◌-◌, ◌≤◌, ◌<◌, ◌↔◌, IsTrue, Bool, true, false, nat_le, List, length, get_or, arith}
use Rattle.std.proofs.lemmas.Bool.Decides.{nat_tests}
use Rattle.std.specs.List.{IsAllAdjacentAnswer}
use Rattle.cn_spec.specs.Step.{IsStep}

-- each entry is at least any later one
abbrev pub NeverRises : List ℕ → Type 0
NeverRises x = (i j : ℕ) → i < j → j < length x → get_or x j 0 ≤ get_or x i 0

-- it is where each entry is at least the next
next-to-later : (x : List ℕ) → ((i : ℕ) → i + 1 < length x → get_or x (i + 1) 0 ≤ get_or x i 0) → NeverRises x
next-to-later x next i zero l m = omega arith
next-to-later x next i (suc j) l m = grind (arith, next j, next-to-later x next i j)

-- so tests of each entry and the next decide it
pub never_rises-by_tests : (x : List ℕ) (b : Bool) → IsAllAdjacentAnswer (λ earlier later r. r ≡ nat_le later earlier) x b
    → IsTrue b ↔ NeverRises x
never_rises-by_tests x true h = (
  λ t. next-to-later x (λ i l. let passed : true ≡ nat_le (get_or x (i + 1) 0) (get_or x i 0) = h i 0 l in grind (arith, nat_tests)),
  λ never. grind (arith, nat_tests),
)
never_rises-by_tests x false h = (
  λ t. grind (arith, nat_tests),
  λ never.
      let failed : false ≡ nat_le (get_or x (h.0 + 1) 0) (get_or x h.0 0) = h.2 0 in
      let fell : get_or x (h.0 + 1) 0 ≤ get_or x h.0 0 = never h.0 (h.0 + 1) (omega arith) h.1 in
      grind (arith, nat_tests),
)

pub last_at-most-first : (x : List ℕ) → 0 < length x → NeverRises x → get_or x (length x - 1) 0 ≤ get_or x 0 0
last_at-most-first x some never = grind (arith, never 0 (length x - 1))

-- a row that never rises has the step property where its first entry is at most one more than its last
pub step_by-ends : (x : List ℕ) → NeverRises x → get_or x 0 0 ≤ get_or x (length x - 1) 0 + 1 → IsStep x
step_by-ends x never ends = record {
  no_less = never;
  at_most_one_more = λ i j l m. grind (arith, never 0 i, never j (length x - 1));
}

-- and only there
pub step-ends : (x : List ℕ) → IsStep x → get_or x 0 0 ≤ get_or x (length x - 1) 0 + 1
step-ends x step = grind (arith, step.at_most_one_more 0 (length x - 1))
