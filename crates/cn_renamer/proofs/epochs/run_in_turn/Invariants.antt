use Rattle.cn_renamer.proofs.Common.{◌≡◌, length, take, clients_of_epochs, HaveWalked, runner_after}
use Rattle.cn_renamer.proofs.epochs.run_in_turn.Given as goal

abbrev pub invariant-loop-epoch : goal.invariant-loop-epoch
invariant-loop-epoch g l = record {
  runner : l.runner ≡ runner_after l.fn.first l.receipts;
  at : l.at ≡ clients_of_epochs (take l.epoch-index l.epochs);
  places : length l.holders ≡ clients_of_epochs l.epochs;
  walked : HaveWalked l.crew l.fn.first (take l.epoch-index l.epochs) l.receipts (take l.at l.holders);
}
