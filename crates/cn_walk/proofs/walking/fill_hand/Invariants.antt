use Rattle.cn_walk.proofs.Common.{◌+◌, ◌≤◌, length, take, Walks}
use Rattle.cn_walk.proofs.walking.fill_hand.Given as goal

abbrev pub invariant-loop-client : goal.invariant-loop-client
invariant-loop-client g l = record {
  walks : Walks l.initial.lane l.lane (take l.client-index l.clients);
  spare : length l.clients ≤ l.client-index + l.lane.yard.spare;
}
