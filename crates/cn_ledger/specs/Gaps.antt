-- What is missing while clients are inside.
use Rattle.std.specs.Prelude.{ℕ, ◌+◌, ◌-◌, ◌<◌, ◌≤◌}
use Rattle.cn_spec.specs.Step.{share}
use Rattle.cn_spec.specs.Sums.{sum_below}
use Rattle.cn_tables.specs.declared.end.End.TheVariants.{Exit}
use Rattle.cn_tables.specs.Table.{Table}
use Rattle.cn_ledger.specs.Laws.{all_inside}
use Rattle.cn_ledger.specs.Ledger.{Ledger, all_entered, times_given}

-- how many of the names below the number that entered are not given yet
abbrev pub names_missing : Table → Ledger → ℕ
names_missing t l = sum_below (all_entered t l) (λ name. 1 - times_given t l name)

-- each exit's count is its share of what entered, or less by no more than are inside
abbrev pub IsNearShares : Table → Ledger → Type 0
IsNearShares t l =
    (i : ℕ) → i < t.width
    → (l.count (Exit i) ≤ share (all_entered t l) t.width i)
    × (share (all_entered t l) t.width i ≤ l.count (Exit i) + all_inside t l)

-- the counts of any two exits differ by at most k: they are k-smooth
abbrev pub IsSmooth : ℕ → Table → Ledger → Type 0
IsSmooth k t l =
    (i j : ℕ) → i < t.width → j < t.width → l.count (Exit i) ≤ l.count (Exit j) + k
