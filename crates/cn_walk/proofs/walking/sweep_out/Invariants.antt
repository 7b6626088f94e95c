use Rattle.cn_walk.proofs.Common.{◌≡◌, ℕ, ◌<◌, ◌≤◌, [], length, on, Walks}
use Rattle.cn_walk.proofs.Walks.{IsHeld, steps_left}
use Rattle.cn_walk.proofs.walking.sweep_out.Given as goal

-- some of those inside went on or out, and nobody stands below the last wire
abbrev pub invariant-loop-wire : goal.invariant-loop-wire
invariant-loop-wire g l = record {
  walks : Walks l.initial.lane l.lane [];
  held : IsHeld l.lane;
  from : l.from ≤ length l.lane.yard.lists;
  clear : (u : ℕ) → u < l.from → on l.lane.yard.lists u ≡ [];
}

abbrev pub decreases-loop-wire : goal.decreases-loop-wire
decreases-loop-wire g l = steps_left l.lane.view
