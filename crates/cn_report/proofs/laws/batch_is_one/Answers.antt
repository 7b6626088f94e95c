use Rattle.cn_report.proofs.Common.{drop, arrivals_in, heading_in}
use Rattle.cn_report.proofs.UniqueBatch.{unique}
use Rattle.cn_report.proofs.laws.batch_is_one.Goals as goal

pub returns : goal.returns
returns c = λ bounds records one other x y. unique one other (arrivals_in (heading_in records) bounds (drop 1 records)) x.holds y.holds
