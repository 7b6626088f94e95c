use Rattle.cn_wiring.proofs.Unique.{same_table}
use Rattle.cn_wiring.proofs.laws.tables_are_unique.Goals as goal

pub returns : goal.returns
returns c t s made w v a b = same_table w v a b
