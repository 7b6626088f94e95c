use Rattle.cn_epoch.proofs.OneRecord.{one-list}
use Rattle.cn_epoch.proofs.laws.commands_have_one_list_of_answers.Goals as goal

pub returns : goal.returns
returns c network turns history kept commands is epochs was = one-list network is turns history kept commands epochs was
