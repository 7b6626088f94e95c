use Rattle.cn_walk.proofs.Common.{◌≡◌, ℕ, ◌<◌, ◌≤◌, All, length, min, tokens_in, LaneValue, Walks, inside_by}
use Rattle.cn_walk.proofs.walking.walk_all.Given as goal

-- those that are left make the whole walk
abbrev pub invariant-loop-rest : goal.invariant-loop-rest
invariant-loop-rest g l = record {
  home : l.lane.home ≡ l.floor;
  out : tokens_in l.lane.yard.lists ≡ 0;
  nobody : (f : ℕ → ℕ) → inside_by f l.lane.view ≡ 0;
  entries : All (λ c. c.entry < l.floor.start.network.table.entries) l.rest;
  quota : length l.rest ≤ l.lane.view.quota;
  room : length l.rest ≤ l.lane.room;
  spare : min (length l.rest) l.hand ≤ l.lane.yard.spare;
  walks : (last : LaneValue) → Walks l.lane last l.rest → Walks l.initial.lane last l.clients;
}

abbrev pub decreases-loop-rest : goal.decreases-loop-rest
decreases-loop-rest g l = length l.rest
