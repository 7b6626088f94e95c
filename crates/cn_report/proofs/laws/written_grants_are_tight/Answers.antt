use Rattle.cn_report.proofs.ReadBack.TightAgain.{written-tight}
use Rattle.cn_report.proofs.ReadBack.PrintedAgain.{printed-back}
use Rattle.cn_report.proofs.laws.written_grants_are_tight.Goals as goal

pub returns-clause-tight : goal.returns-clause-tight
returns-clause-tight c = written-tight

pub returns-clause-printed : goal.returns-clause-printed
returns-clause-printed c = printed-back
