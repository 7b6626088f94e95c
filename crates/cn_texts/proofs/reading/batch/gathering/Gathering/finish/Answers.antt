use Rattle.cn_texts.proofs.Common.{arith}
use Rattle.cn_texts.proofs.ReadingLemmas.BatchRecords.{taken_all}
use Rattle.cn_texts.proofs.ReadingLemmas.GatheredEpochs.{ended-epochs}
use Rattle.cn_texts.proofs.ReadingLemmas.ServableEpochs.{all-ended, ended-servable}
use Rattle.cn_texts.proofs.reading.batch.gathering.Gathering.finish.Goals as goal

pub returns-in-Ok-clause-answer : goal.returns-in-Ok-clause-answer
returns-in-Ok-clause-answer c = λ heading bounds records arrivals taken gathered.
    taken_all records taken (rw c.in-Ok.ensures.turned.0 (ended-epochs gathered.holds))

pub returns-in-Ok-clause-fits : goal.returns-in-Ok-clause-fits
returns-in-Ok-clause-fits c = λ bounds keeps. rw c.in-Ok.ensures.turned.0 (ended-servable keeps)

pub returns-in-Ok-clause-few : goal.returns-in-Ok-clause-few
returns-in-Ok-clause-few c = λ bounds keeps. rw c.in-Ok.ensures.turned.0 (omega (arith, all-ended c.args.self, keeps.count, keeps.few))
