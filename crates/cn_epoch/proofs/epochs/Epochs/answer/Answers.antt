use Rattle.cn_epoch.proofs.Common.{entered_reply, stepped_reply, Replied, Step}
use Rattle.cn_epoch.proofs.Answering.{came-after, entered-by, stepped-by}
use Rattle.cn_epoch.proofs.epochs.Epochs.answer.Goals as goal

pub returns-in-Enter-clause-history : goal.returns-in-Enter-clause-history
returns-in-Enter-clause-history c = rw (c.in-Enter.is, c.into.ensures)
    (entered-by c.args.self.now c.enter.new.self c.in-Enter.client c.in-Enter.entry (entered_reply c.enter.result) c.enter.ensures.history)

pub returns-in-Step-clause-history : goal.returns-in-Step-clause-history
returns-in-Step-clause-history c = rw (c.in-Step.is, c.into-in-Step.ensures)
    (stepped-by c.args.self.now c.step.new.self c.in-Step.client (stepped_reply c.step.result) c.step.ensures.history)

pub returns-in-Turn-clause-history : goal.returns-in-Turn-clause-history
returns-in-Turn-clause-history c = rw (c.in-Turn.is, c.into-in-Turn.ensures) c.turn.ensures.history

pub returns-in-Step-clause-came : goal.returns-in-Step-clause-came
returns-in-Step-clause-came c =
    (came-after c.args.self.now (Step c.in-Step.client) (Replied (stepped_reply c.step.result)) c.step.new.self
    (c.step.ensures.event, c.step.ensures.ledger, c.step.ensures.same.0, c.step.ensures.same.1)).1
