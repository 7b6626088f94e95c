use Rattle.cn_ledger.proofs.Happening.{two_clients}
use Rattle.cn_ledger.proofs.laws.worked_ledgers.Goals as goal

pub returns-clause-two_clients : goal.returns-clause-two_clients
returns-clause-two_clients z = two_clients
