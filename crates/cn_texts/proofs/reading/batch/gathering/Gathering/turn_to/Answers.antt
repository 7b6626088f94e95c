use Rattle.cn_texts.proofs.Common.{arith}
use Rattle.cn_texts.proofs.ReadingLemmas.GatheredEpochs.{turned}
use Rattle.cn_texts.proofs.ReadingLemmas.ServableEpochs.{turned-keeps}
use Rattle.cn_texts.proofs.reading.batch.gathering.Gathering.turn_to.Goals as goal

pub returns-clause-holds : goal.returns-clause-holds
returns-clause-holds c =
    let (ended, number, clients, keys) = c.in_ok-open_epoch.ensures.turned in (
      number,
      λ before held. turned held (omega (arith, c.requires, c.if-self-epoch.false)) ended number clients keys,
    )

pub returns-clause-keeps : goal.returns-clause-keeps
returns-clause-keeps c = λ bounds keeps.
    let (ended, number, clients, keys) = c.in_ok-open_epoch.ensures.turned in
    turned-keeps keeps
    (omega (arith, c.requires, c.if-self-epoch.false)) ended number clients keys c.open_epoch.ensures.next
