use Rattle.cn_texts.proofs.Common.{◌≡◌, ◌∙◌, ◌<◌, ◌≤◌, ℕ, ap, arith, get_or, length, sym, zero-add, enumerate_from, get_or-enumerate_from, length-enumerate_from, wire_line}
use Rattle.cn_tables.specs.declared.end.End.{End}
use Rattle.cn_tables.specs.declared.end.End.TheVariants.{Balancer}
use Rattle.cn_texts.proofs.WritingLemmas.Putting.{put-last, put-next, put-none}
use Rattle.cn_texts.proofs.writing.wiring.send_wires.Goals as goal

pub loop-wire-init : goal.loop-wire-init
loop-wire-init g c = put-none

pub loop-wire-preserved : goal.loop-wire-preserved
loop-wire-preserved g c =
    let ends = c.args.network.now.table.ends in
    let wire = c.loop-wire.wire in
    let many = length-enumerate_from 0 ends in
    let within : wire < length ends = omega (arith, c.entries.ensures.network.formed.wires) in
    let at : (wire, c.end.result) ≡ get_or (enumerate_from 0 ends) wire (0, Balancer 0) =
    sym (get_or-enumerate_from 0 ends wire (0, Balancer 0) within ∙ ap (λ (k : ℕ). (k, get_or ends wire (Balancer 0))) (zero-add wire)
    ∙ ap (λ (e : End). (wire, e)) c.end.ensures.at) in
    put-next wire_line (enumerate_from 0 ends) wire (0, Balancer 0) (wire, c.end.result) (omega (arith, many, within)) at
    c.loop-wire.invariant c.send_wire.ensures

pub returns : goal.returns
returns g c =
    let ends = c.args.network.now.table.ends in
    let done : length (enumerate_from 0 ends) ≤ c.loop-wire.wire =
    omega (arith, length-enumerate_from 0 ends, c.entries.ensures.network.formed.wires) in
    put-last wire_line (enumerate_from 0 ends) c.loop-wire.wire done c.loop-wire.invariant
