use Rattle.cn_report.proofs.Common.{◌≡◌, map, take, plain_tight, with_shares}
use Rattle.cn_report.proofs.checking.with_shares.Given as goal

abbrev pub invariant-loop-epoch : goal.invariant-loop-epoch
invariant-loop-epoch l = record { shared : map plain_tight l.epochs.items ≡ map (with_shares l.fn.width) (take l.epoch-index l.fn.named) }
