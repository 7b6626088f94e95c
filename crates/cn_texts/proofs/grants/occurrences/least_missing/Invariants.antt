use Rattle.cn_texts.proofs.Common.{◌≡◌, ◌<◌, ℕ, get_or, numbers_of}
use Rattle.cn_texts.proofs.grants.occurrences.least_missing.Given as goal

abbrev pub invariant-loop-at : goal.invariant-loop-at
invariant-loop-at l = record { own : (k : ℕ) → k < l.at → get_or (numbers_of l.occurrences) k 0 ≡ k }
