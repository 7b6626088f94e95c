use Rattle.cn_renamer.proofs.Common.{First, Whole, crew_of, err_from_is_err_and}
use Rattle.cn_renamer.proofs.Running.{may-run, run-written}
use Rattle.cn_renamer.proofs.serving.serve_batch.Goals as goal

pub run_epochs-requires-clause-may : goal.run_epochs-requires-clause-may
run_epochs-requires-clause-may g c κs within =
    may-run c.args.options.now.large c.args.network.now.table.entries c.args.epochs.now c.requires.fits c.requires.few

pub returns-in_err-write_epochs : goal.returns-in_err-write_epochs
returns-in_err-write_epochs g c known batch =
    let fault = err_from_is_err_and c.from_residual-in_err-write_epochs.result c.from_residual-in_err-write_epochs.ensures.1 in
    let options = c.args.options.now in
    let (run, ordered, floors) = run-written g.W.Write.contents c.args.writer.now c.write_epochs.new.writer
    options.net options.form options.carry options.large c.args.network.now c.requires.built known c.args.epochs.now batch
    c.requires.fits (crew_of c.args.gate options) c.in_ok-holders.receipts c.in_ok-holders.holders.items c.in_ok-holders.ensures.walked
    (First c.in_err-write_epochs.field-0.0.written) (rw c.deref.ensures.value at c.in_err-write_epochs.ensures) in
    rw (fault.1, fault.2) (record { headline = run; in_order = ordered; floors = tt; refused = tt })

pub returns : goal.returns
returns g c known batch =
    let options = c.args.options.now in
    let (run, ordered, floors) = run-written g.W.Write.contents c.args.writer.now c.write_epochs.new.writer
    options.net options.form options.carry options.large c.args.network.now c.requires.built known c.args.epochs.now batch
    c.requires.fits (crew_of c.args.gate options) c.in_ok-holders.receipts c.in_ok-holders.holders.items c.in_ok-holders.ensures.walked
    Whole (rw c.deref.ensures.value at c.in_ok-write_epochs.ensures) in
    record { headline = run; in_order = ordered; floors = floors; refused = tt }
