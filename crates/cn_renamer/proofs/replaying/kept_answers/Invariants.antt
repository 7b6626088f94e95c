use Rattle.cn_renamer.proofs.Common.{◌≡◌, ◌+◌, ◌≤◌, ◌++◌, List, false, drop, length, vec_capacity, vec_len, All, AllZip, HadMemory, Answer, RunsCommandsByHistory, Epochs, IsKept}
use Rattle.cn_renamer.proofs.replaying.kept_answers.Given as goal

-- a run of what is left completes the run
abbrev pub invariant-loop-command : goal.invariant-loop-command
invariant-loop-command l = record {
  so_far : vec_len l.answers ≡ l.command-index;
  room : length l.commands ≤ vec_capacity l.answers;
  network : l.epochs.core.network ≡ l.fn.epochs.core.network;
  number : l.epochs.number ≤ l.fn.epochs.number + l.command-index;
  clears : l.epochs.carries ≡ false;
  answered : (done : List Answer) × All HadMemory done × AllZip (IsKept l.fn.epochs.core.network.table.width) done l.answers.items
      × ((rest : List Answer) (new : Epochs) → RunsCommandsByHistory l.epochs (drop l.command-index l.commands) rest new
      → RunsCommandsByHistory l.fn.epochs l.commands (done ++ rest) new);
}
