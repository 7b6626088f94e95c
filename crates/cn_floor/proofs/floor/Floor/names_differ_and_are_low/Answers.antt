use Rattle.cn_floor.proofs.Common.{bounded, granted-once, names-differ, ledger_at, arith, refl}
use Rattle.cn_floor.proofs.InStates.Fresh.{load-bound-few}
use Rattle.cn_floor.proofs.floor.Floor.names_differ_and_are_low.Goals as goal

pub returns-clause-differ : goal.returns-clause-differ
returns-clause-differ c s kept =
    let start = c.args.self.now.start in
    λ client other exit another visit second name one two.
    names-differ start.network.table (ledger_at start s) kept.sound client other exit another visit second name name one two refl

pub returns-clause-once : goal.returns-clause-once
returns-clause-once c s kept =
    let start = c.args.self.now.start in
    granted-once start.network.table (ledger_at start s) kept.sound

pub returns-clause-low : goal.returns-clause-low
returns-clause-low c s kept =
    let start = c.args.self.now.start in
    let net = c.start_laws.ensures.network in
    bounded start.network.table net.formed net.counts (ledger_at start s) kept.sound

pub returns-clause-late : goal.returns-clause-late
returns-clause-late c s kept id v at k d low =
    let start = c.args.self.now.start in
    let f = kept.fresh id v at in
    omega (arith, f.names k d low, load-bound-few start.network.table s.words v.loads f.low)
