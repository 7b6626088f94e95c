use Rattle.cn_epoch.proofs.Common.{◌∙◌, [], refl, entered_reply, epochs_of}
use Rattle.cn_core.specs.History as core
use Rattle.cn_core.specs.declared.event.Event.TheVariants.{Enter}
use Rattle.cn_epoch.proofs.Answering.{replied}
use Rattle.cn_epoch.proofs.epochs.Epochs.enter.Goals as goal

pub invariant_of-self : goal.invariant_of-self
invariant_of-self c = record {
  network = c.enter.ensures.network ∙ c.self.invariant.network;
  cleared = λ clears. let (history, agrees) = c.self.invariant.cleared clears in (
    core.history_after history (Enter c.args.client c.args.entry) (entered_reply c.enter.result),
    (c.enter.ensures.history history [] agrees).1,
  );
}

pub returns-clause-history : goal.returns-clause-history
returns-clause-history c = rw (← c.self.view_is)
    (replied (epochs_of c.self.inside) _ (Enter c.args.client c.args.entry) (entered_reply c.enter.result) c.enter.ensures.history
    (refl, refl))
