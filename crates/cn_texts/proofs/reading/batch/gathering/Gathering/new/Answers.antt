use Rattle.cn_texts.proofs.Common.{refl}
use Rattle.cn_texts.proofs.ReadingLemmas.GatheredEpochs.{none-gathered}
use Rattle.cn_texts.proofs.ReadingLemmas.ServableEpochs.{none_kept}
use Rattle.cn_texts.proofs.reading.batch.gathering.Gathering.new.Goals as goal

pub returns-clause-none : goal.returns-clause-none
returns-clause-none c = none-gathered c.new.ensures.items c.new-2.ensures.items refl c.with_hasher.ensures.empty refl

pub returns-clause-keeps : goal.returns-clause-keeps
returns-clause-keeps c =
    λ bounds within. none_kept within c.new.ensures.items c.new-2.ensures.items c.with_hasher.ensures.empty refl
