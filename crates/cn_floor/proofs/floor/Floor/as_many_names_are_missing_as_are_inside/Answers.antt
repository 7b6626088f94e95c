use Rattle.cn_floor.proofs.Common.{near-shares, smooth, ledger_at}
use Rattle.cn_floor.proofs.InStates.Missing.{missing-at}
use Rattle.cn_floor.proofs.floor.Floor.as_many_names_are_missing_as_are_inside.Goals as goal

pub returns-clause-names : goal.returns-clause-names
returns-clause-names c s kept = missing-at c.args.self.now.start c.start_laws.ensures s kept

pub returns-clause-counts : goal.returns-clause-counts
returns-clause-counts c s kept =
    let start = c.args.self.now.start in
    let net = c.start_laws.ensures.network in
    near-shares start.network.table net.formed (ledger_at start s) kept.sound net.counts

pub returns-clause-smooth : goal.returns-clause-smooth
returns-clause-smooth c s kept =
    let start = c.args.self.now.start in
    let net = c.start_laws.ensures.network in
    smooth start.network.table net.formed (ledger_at start s) kept.sound net.counts
