use Rattle.cn_report.proofs.OneText.{one-wiring}
use Rattle.cn_report.proofs.laws.a_wiring_has_one_text.Goals as goal

pub returns : goal.returns
returns c = one-wiring
