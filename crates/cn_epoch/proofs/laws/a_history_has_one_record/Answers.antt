use Rattle.cn_epoch.proofs.OneRecord.{one-record-after}
use Rattle.cn_epoch.proofs.laws.a_history_has_one_record.Goals as goal

pub returns : goal.returns
returns c network turns history earlier is epochs few = one-record-after network is turns history earlier epochs few
