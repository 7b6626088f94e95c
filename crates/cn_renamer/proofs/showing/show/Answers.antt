use Rattle.cn_renamer.proofs.Common.{err_from_is_err_and, written-map, First}
use Rattle.cn_renamer.specs.Show.{IsWiringOf}
use Rattle.cn_renamer.proofs.showing.show.Goals as goal

pub returns-in_err-write_wiring : goal.returns-in_err-write_wiring
returns-in_err-write_wiring g c =
    let fault = err_from_is_err_and c.from_residual-in_err-write_wiring.result c.from_residual-in_err-write_wiring.ensures.1 in
    rw (fault.1, fault.2) (
    written-map g.W.Write.contents _ (IsWiringOf c.args.net.now) (First c.in_err-write_wiring.field-0.0.written) c.args.writer.now
    c.write_wiring.new.writer
    (λ text is. (c.in_ok-network.network, c.in_ok-network.ensures.ok, is)) c.in_err-write_wiring.ensures)

pub returns : goal.returns
returns g c =
    let (text, is, grows) = c.in_ok-write_wiring.ensures in
    (text, (c.in_ok-network.network, c.in_ok-network.ensures.ok, is), grows)
