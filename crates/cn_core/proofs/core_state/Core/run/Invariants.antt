use Rattle.cn_core.proofs.Common.{◌≡◌, ◌≤◌, ◌++◌, List, drop, length, vec_len, State, RunsByHistory, RunsTo, Reply}
use Rattle.std.specs.Vec.{vec_capacity}
use Rattle.cn_core.proofs.core_state.Core.run.Given as goal

-- a run of what is left completes the run
abbrev pub invariant-loop-event : goal.invariant-loop-event
invariant-loop-event l = record {
  so_far : vec_len l.replies ≡ l.event-index;
  room : length l.events ≤ vec_capacity l.replies;
  network : l.self.network ≡ l.fn.self.network;
  events : (rest : List Reply) (new : State) → RunsTo l.self (drop l.event-index l.events) rest new
      → RunsTo l.fn.self l.events (l.replies.items ++ rest) new;
  rest : (rest : List Reply) (new : State) → RunsByHistory l.self (drop l.event-index l.events) rest new
      → RunsByHistory l.fn.self l.events (l.replies.items ++ rest) new;
}
