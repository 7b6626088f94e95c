use Rattle.cn_epoch.proofs.Common.{◌≡◌, ◌+◌, ◌≤◌, ◌++◌, List, drop, length, vec_capacity, vec_len, Answer, RunsCommandsTo, RunsCommandsByHistory, Epochs}
use Rattle.cn_epoch.proofs.epochs.Epochs.run.Given as goal

-- a run of what is left completes the run
abbrev pub invariant-loop-command : goal.invariant-loop-command
invariant-loop-command l = record {
  so_far : vec_len l.answers ≡ l.command-index;
  room : length l.commands ≤ vec_capacity l.answers;
  network : l.self.core.network ≡ l.fn.self.core.network;
  number : l.self.number ≤ l.fn.self.number + l.command-index;
  carries : l.self.carries ≡ l.fn.self.carries;
  came : l.self.core.base + length l.self.core.clients ≤ l.fn.self.core.base + length l.fn.self.core.clients + l.command-index;
  events : (rest : List Answer) (new : Epochs) → RunsCommandsTo l.self (drop l.command-index l.commands) rest new
      → RunsCommandsTo l.fn.self l.commands (l.answers.items ++ rest) new;
  rest : (rest : List Answer) (new : Epochs) → RunsCommandsByHistory l.self (drop l.command-index l.commands) rest new
      → RunsCommandsByHistory l.fn.self l.commands (l.answers.items ++ rest) new;
}
