use Rattle.cn_renamer.proofs.Common.{◌≡◌, ◌-◌, ◌<◌, ℕ, length, take, clients_of_epochs}
use Rattle.cn_renamer.proofs.epochs.cut.Given as goal

abbrev pub invariant-loop-before : goal.invariant-loop-before
invariant-loop-before l = record {
  some : 0 < l.at;
  others : l.at < length l.epochs;
  clients : l.before ≡ clients_of_epochs (take l.at l.epochs);
  fewer : (k : ℕ) → 0 < k → k < l.at → clients_of_epochs (take k l.epochs) < l.wanted;
}

abbrev pub decreases-loop-before : goal.decreases-loop-before
decreases-loop-before l = length l.epochs - l.at
