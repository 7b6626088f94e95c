use Rattle.cn_texts.proofs.Common.{◌≡◌, ◌+◌, ◌*◌, ap, arith, length, wiring_text}
use Rattle.cn_texts.specs.Writing.Wiring.{wires_line}
use Rattle.cn_texts.proofs.WritingLemmas.Putting.{put-all, put-same, put-then}
use Rattle.cn_texts.proofs.writing.wiring.write_wiring.Goals as goal

pub returns : goal.returns
unfolding wires_line
returns g c =
    let wires : c.entries.result + 2 * c.balancers.result ≡ length c.args.network.now.table.ends =
    omega (arith, c.entries.ensures.value, c.balancers.ensures.value, c.entries.ensures.network.formed.wires) in
    c.finish.ensures c.args.writer.now (wiring_text c.args.network.now)
    (put-all c.requires (put-then (put-then c.send_heading.ensures c.send_wires.ensures)
    (put-same (ap wires_line wires) c.send_numbered.ensures)))
