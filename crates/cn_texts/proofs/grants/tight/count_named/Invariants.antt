use Rattle.cn_texts.proofs.Common.{◌≡◌, ◌≤◌, ◌*◌, take, sum_by}
use Rattle.cn_texts.proofs.grants.tight.count_named.Given as goal

abbrev pub invariant-loop-epoch : goal.invariant-loop-epoch
invariant-loop-epoch l = record {
  total : l.clients ≡ sum_by (λ e. e.clients) (take l.epoch-index l.epochs);
  few : l.clients ≤ l.epoch-index * 18446744073709551615;
}
