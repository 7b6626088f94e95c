use Rattle.cn_report.proofs.OneText.{one-text, one-text-of, one-text-of-bytes}
use Rattle.cn_report.proofs.laws.a_replay_has_one_text.Goals as goal

pub returns-clause-on_a_network : goal.returns-clause-on_a_network
returns-clause-on_a_network c network commands text other is = one-text network is commands text other

pub returns-clause-of_commands : goal.returns-clause-of_commands
returns-clause-of_commands c = one-text-of

pub returns-clause-of_bytes : goal.returns-clause-of_bytes
returns-clause-of_bytes c = one-text-of-bytes
