use Rattle.cn_ledger.proofs.EventLemmas.{sound-enters, sound-leaves, sound-passes}
use Rattle.cn_ledger.proofs.laws.events_keep_ledgers_sound.Goals as goal

pub returns : goal.returns
returns z = record {
  enters = λ client entry network old new is. sound-enters network.table old new client entry;
  passes = λ client wire balancer network old new is. sound-passes network.table old new client wire balancer;
  leaves = λ client wire exit network old new is. sound-leaves network.table is.formed old new client wire exit;
}
