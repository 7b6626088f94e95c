use Rattle.cn_walk.proofs.Common.{◌≡◌, take, tokens_in, GrantsInOrder, IsSole, Walks}
use Rattle.cn_walk.proofs.Walks.{IsHeld}
use Rattle.cn_walk.proofs.walking.walk_each.Given as goal

-- those before walked, and nobody is inside
abbrev pub invariant-loop-client : goal.invariant-loop-client
invariant-loop-client g l = record {
  held : IsHeld l.lane;
  out : tokens_in l.lane.yard.lists ≡ 0;
  walks : Walks l.initial.lane l.lane (take l.client-index l.clients);
  ordered : IsSole l.initial.lane → IsSole l.lane × GrantsInOrder l.initial.lane l.lane (take l.client-index l.clients);
}
