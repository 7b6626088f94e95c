-- Workers who run epochs.
use Rattle.std.specs.Prelude.{ℕ, ◌+◌, ◌-◌, ◌*◌, ◌/◌, ◌<◌, ◌≤◌, max, min}
use Rattle.cn_spec.specs.declared.limits.TheConstants.{MOST_WORKERS}
use Rattle.cn_spec.specs.Workers.{HandFits}
use Rattle.cn_walk.specs.declared.crew.Crew.{Crew}

-- some worker is there, none has a number that no worker may have, and each may have so many clients in hand
pub record IsCrew (crew : Crew) : Type 0 where
  pub some : 0 < crew.workers
  pub within : crew.first + crew.workers ≤ MOST_WORKERS
  pub hand : HandFits crew.hand

-- of so many workers, the number that is nearest to `part` of `whole`, so far as one at least is on each side: of two
-- that are as near the greater
abbrev pub nearest_part : ℕ → ℕ → ℕ → ℕ
nearest_part workers part whole = min (max ((workers * part + whole / 2) / whole) 1) (workers - 1)
