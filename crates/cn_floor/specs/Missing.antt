-- Which names are missing on a floor while clients are inside.
use Rattle.std.specs.Prelude.{ℕ, ◌-◌, map, sum_by}
use Rattle.cn_spec.specs.Sums.{sum_below, times}
use Rattle.cn_ledger.specs.Laws.{all_inside}
use Rattle.cn_floor.specs.declared.view.Start.{Start}
use Rattle.cn_floor.specs.Laws.{entered_at, ledger_at}
use Rattle.cn_floor.specs.Rule.{FloorState}
use Rattle.cn_floor.specs.Views.{base}

-- how many clients came in since the floor began
abbrev pub came_at : Start → FloorState → ℕ
came_at start s = entered_at start s - base start

-- how many are inside
abbrev pub inside_at : Start → FloorState → ℕ
inside_at start s = all_inside start.network.table (ledger_at start s)

-- how often a name is granted, by all lanes
abbrev pub times_granted : FloorState → ℕ → ℕ
times_granted s name = sum_by (λ v. times name (map (λ g. g.name) v.grants)) s.views

-- how many of the names below the number that came in are not granted yet
abbrev pub names_missing_at : Start → FloorState → ℕ
names_missing_at start s = sum_below (came_at start s) (λ name. 1 - times_granted s name)
