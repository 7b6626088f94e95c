use Rattle.cn_renamer.proofs.Common.{◌∙◌, err_from_is_err_and, Whole, until_serve}
use Rattle.cn_renamer.proofs.Asked.{run-as-asked, walkers-as-asked}
use Rattle.cn_renamer.proofs.performing.perform.Goals as goal

pub returns-in_err-check-in-Check : goal.returns-in_err-check-in-Check
returns-in_err-check-in-Check g c =
    let fault = err_from_is_err_and c.from_residual-in_err-check-in-Check.result c.from_residual-in_err-check-in-Check.ensures.1 in
    let failed = c.in_err-check-in-Check.ensures in
    rw (c.in-Check.is, fault.1, fault.2) (record { written = failed.written; ends = failed.flawed })

pub returns-in_ok-check-in-Check : goal.returns-in_ok-check-in-Check
returns-in_ok-check-in-Check g c = rw c.in-Check.is (record { written = c.in_ok-check-in-Check.ensures.written; ends = tt })

pub returns-in_err-check_within-in-CheckLarge : goal.returns-in_err-check_within-in-CheckLarge
returns-in_err-check_within-in-CheckLarge g c =
    let fault = err_from_is_err_and c.from_residual-in_err-check_within-in-CheckLarge.result
    c.from_residual-in_err-check_within-in-CheckLarge.ensures.1 in
    let failed = c.in_err-check_within-in-CheckLarge.ensures in
    rw (c.in-CheckLarge.is, fault.1, fault.2) (record { written = failed.written; ends = failed.flawed })

pub returns-in_ok-check_within-in-CheckLarge : goal.returns-in_ok-check_within-in-CheckLarge
returns-in_ok-check_within-in-CheckLarge g c =
    rw c.in-CheckLarge.is (record { written = c.in_ok-check_within-in-CheckLarge.ensures.written; ends = tt })

pub returns-in_err-show-in-Show : goal.returns-in_err-show-in-Show
returns-in_err-show-in-Show g c =
    let fault = err_from_is_err_and c.from_residual-in_err-show-in-Show.result c.from_residual-in_err-show-in-Show.ensures.1 in
    rw (c.in-Show.is, fault.1, fault.2) (record { written = c.in_err-show-in-Show.ensures; ends = tt })

pub returns-in_ok-show-in-Show : goal.returns-in_ok-show-in-Show
returns-in_ok-show-in-Show g c = rw c.in-Show.is (record { written = c.in_ok-show-in-Show.ensures; ends = tt })

pub returns-in_err-replay-in-Replay : goal.returns-in_err-replay-in-Replay
returns-in_err-replay-in-Replay g c =
    let fault = err_from_is_err_and c.from_residual-in_err-replay-in-Replay.result c.from_residual-in_err-replay-in-Replay.ensures.1 in
    let failed = c.in_err-replay-in-Replay.ensures in
    rw (c.in-Replay.is, fault.1, fault.2) (record { written = failed.written; ends = failed.refused })

pub returns-in_ok-replay-in-Replay : goal.returns-in_ok-replay-in-Replay
returns-in_ok-replay-in-Replay g c =
    rw c.in-Replay.is (record { written = c.in_ok-replay-in-Replay.ensures.written; ends = tt })

pub returns-in_err-serve_with_receipts-in-Run : goal.returns-in_err-serve_with_receipts-in-Run
returns-in_err-serve_with_receipts-in-Run g c =
    let fault = err_from_is_err_and c.from_residual-in_err-serve_with_receipts-in-Run.result
    c.from_residual-in_err-serve_with_receipts-in-Run.ensures.1 in
    let ran = c.in_err-serve_with_receipts-in-Run.ensures in
    rw (c.in-Run.is, fault.1, fault.2) (record {
      written = run-as-asked g.W.Write.contents c.args.writer.now c.serve_with_receipts.new.writer c.in-Run.options
          (g.I.Read.remaining c.args.reader) (until_serve c.in_err-serve_with_receipts-in-Run.field-0.0) ran.headline
          (λ one. ran.in_order (walkers-as-asked c.gate_of-gate.result c.in-Run.options c.gate_of-gate.ensures ∙ one));
      ends = ran.refused;
    })

pub returns-in_ok-serve_with_receipts-in-Run : goal.returns-in_ok-serve_with_receipts-in-Run
returns-in_ok-serve_with_receipts-in-Run g c =
    let ran = c.in_ok-serve_with_receipts-in-Run.ensures in
    rw c.in-Run.is (record {
      written = run-as-asked g.W.Write.contents c.args.writer.now c.serve_with_receipts.new.writer c.in-Run.options
          (g.I.Read.remaining c.args.reader) Whole ran.headline
          (λ one. ran.in_order (walkers-as-asked c.gate_of-gate.result c.in-Run.options c.gate_of-gate.ensures ∙ one));
      ends = tt;
    })
