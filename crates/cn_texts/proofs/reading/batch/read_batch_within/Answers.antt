use Rattle.cn_texts.proofs.reading.batch.read_batch_within.Goals as goal

pub read_epochs-requires-clause-keeps : goal.read_epochs-requires-clause-keeps
read_epochs-requires-clause-keeps g c = c.new-gathering.ensures.keeps c.in_ok-source.source.bounds c.in_ok-source.ensures.open.within
