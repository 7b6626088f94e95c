use Rattle.cn_renamer.proofs.Common.{rules, err_from_is_err_and, IsNetworkOf}
use Rattle.cn_renamer.proofs.Refused.{none-written, refused-by}
use Rattle.cn_renamer.proofs.serving.serve_with_receipts.Goals as goal

pub returns-in_err-batch : goal.returns-in_err-batch
returns-in_err-batch g c =
    let reported = err_from_is_err_and c.from_residual-in_err-batch.result c.from_residual-in_err-batch.ensures.1 in
    let options = c.args.options.now in
    let built : IsNetworkOf options.net c.in_ok-network.network = search rules in
    let fault = c.in_err-batch.field-0.0 in
    rw (reported.1, reported.2) (record {
      headline = none-written fault g.W.Write.contents _ c.args.writer.now;
      in_order = λ worker hand. none-written fault g.W.Write.contents _ c.args.writer.now;
      floors = tt;
      refused = refused-by fault options.net options.large _ (g.I.Read.remaining c.args.reader) built.2.entries
          c.in_err-batch.ensures.answer;
    })

pub returns : goal.returns
returns g c =
    let ran = c.serve_batch.ensures (g.I.Read.remaining c.args.reader) (rw (← c.deref.ensures.value) at c.in_ok-batch.ensures.answer) in
    record { headline = ran.headline; in_order = ran.in_order; floors = ran.floors; refused = ran.refused }
