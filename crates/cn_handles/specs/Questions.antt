-- What is asked of lanes and of the records of closed floors.
use Rattle.std.specs.Prelude.{◌≡◌, ℕ, ◌+◌, ◌<◌, ◌≤◌, List, get_or, length}
use Rattle.cn_yard.specs.Lists.{tokens_in}
use Rattle.cn_floor.specs.declared.view.Grant as floor
use Rattle.cn_floor.specs.Lane.{LaneValue}
use Rattle.cn_handles.specs.declared.handles.question.Question.{Question}
use Rattle.cn_handles.specs.declared.handles.question.Question.TheVariants.{Quota, Inside, Entries, Exits, Grants}
use Rattle.cn_handles.specs.declared.handles.grants.Grant.{Grant}

-- what a lane answers
abbrev pub number_asked : Question → LaneValue → ℕ
number_asked Quota l = l.view.quota
number_asked Inside l = tokens_in l.yard.lists
number_asked Entries l = l.home.start.network.table.entries
number_asked Exits l = l.home.start.network.table.width
number_asked Grants l = length l.view.grants

-- a grant as C sees it
abbrev pub copy_of : floor.Grant → Grant
copy_of g = record { client = g.client; exit = g.exit; visit = g.visit; name = g.name }

-- some grants of a list, from this one on
pub record AreGrantsFrom (grants : List floor.Grant) (first : ℕ) (copies : List Grant) : Type 0 where
  pub there : first + length copies ≤ length grants
  pub each : (k : ℕ) (d : Grant) (e : floor.Grant) → k < length copies
      → get_or copies k d ≡ copy_of (get_or grants (first + k) e)
