use Rattle.cn_floor.proofs.Common.{◌≡◌, ℕ, List, IsAlone, OnlyPassed, PassesOn}
use Rattle.cn_floor.proofs.InLane.Depths.{EndsAt, LiesAt}
use Rattle.cn_floor.proofs.floor.Floor.pass_on.Given as goal

abbrev pub ghosts-step : goal.ghosts-step
ghosts-step g a = record { going = record { start = a.self.now.start; token = a._token; client = a._client; wire = a._wire; end = a.end } }

-- so far it passed a balancer by each round, and stands on a wire so deep
abbrev pub invariant-loop-passed : goal.invariant-loop-passed
invariant-loop-passed g l = record {
  home : l.post.home ≡ l.initial.post.home;
  passed : OnlyPassed l.initial.post.view l.post.view;
  alone : IsAlone l.post.view.tokens l.token l.client l.at;
  deep : LiesAt l.self.start.network l.passed l.at;
  end : EndsAt l.self.start.network l.at l.ends_at;
  by : (numbers : List ℕ) × PassesOn l.self.start l.token l.client numbers l.entry l.initial.post.view l.at l.post.view;
}
