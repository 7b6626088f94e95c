-- What the exits of a network hold.
use Rattle.std.specs.Prelude.{ℕ, ◌<◌, ◌≤◌, List, length, slice_index}
use Rattle.cn_spec.specs.declared.limits.TheConstants.{MOST_ARRIVALS, MOST_ENDS}

-- a count for each of some exits, and none too large
pub record IsExitCounts (counts : List ℕ) : Type 0 where
  pub some : 0 < length counts
  pub few : length counts ≤ MOST_ENDS
  pub small : (exit : ℕ) → exit < length counts → slice_index counts exit ≤ MOST_ARRIVALS
