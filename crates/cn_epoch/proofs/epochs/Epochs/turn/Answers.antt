use Rattle.cn_epoch.proofs.Common.{◌≡◌, ◌+◌, refl, rules, inside_in, IsTightState, TellsEpoch, next, epochs_of}
use Rattle.cn_epoch.proofs.Answering.{memory-after, said-tight, turned-after}
use Rattle.cn_epoch.proofs.epochs.Epochs.turn.Goals as goal

pub returns-in_default-clause-history : goal.returns-in_default-clause-history
returns-in_default-clause-history c =
    let quiet : inside_in c.self.inside.core ≡ 0 = search rules in
    rw (← c.self.view_is) (memory-after (epochs_of c.self.inside) quiet)

pub returns-in_default-holders-clause-history : goal.returns-in_default-holders-clause-history
returns-in_default-holders-clause-history c =
    let quiet : inside_in c.self.inside.core ≡ 0 = search rules in
    rw (← c.self.view_is) (memory-after (epochs_of c.self.inside) quiet)

-- the record describes the state
said : (c : goal.After-begin_next) → TellsEpoch (epochs_of c.self.inside)
    (record { number = c.self.inside.number; clients = c.entered.result; counts = c.in-Ok.counts; holders = c.in-Ok-holders.holders })
said c = record {
  number = refl;
  clients = c.entered.ensures.value;
  exits = c.in-Ok.ensures.exits;
  counts = c.in-Ok.ensures.counts;
  holders = c.in-Ok-holders.ensures;
}

-- the next epoch begins
begun : (c : goal.After-begin_next) → c.begin_next.new.self
    ≡ record { number = c.self.inside.number + 1; carries = c.self.inside.carries; core = next c.self.inside.carries c.self.inside.core }
begun c = rw (← c.self.view_is) at c.begin_next.ensures

pub returns-clause-event : goal.returns-clause-event
returns-clause-event c =
    let quiet : inside_in c.self.inside.core ≡ 0 = search rules in
    let tight : IsTightState c.self.inside.core = search rules in
    rw (← c.self.view_is) (quiet, said c, said-tight (epochs_of c.self.inside) _ (said c) c.state_laws.ensures.came tight, begun c)

pub returns-clause-history : goal.returns-clause-history
returns-clause-history c =
    let quiet : inside_in c.self.inside.core ≡ 0 = search rules in
    rw (← c.self.view_is) (turned-after (epochs_of c.self.inside) c.begin_next.new.self _ (said c) c.state_laws.ensures.shares quiet
    (begun c))
