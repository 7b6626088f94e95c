use Rattle.cn_texts.proofs.Common.{◌≤◌, ◌-◌, length, drop, arith, length-take}
use Rattle.cn_texts.proofs.WritingLemmas.Putting.{front_more}
use Rattle.cn_texts.proofs.writing.emitting.write_whole.Goals as goal

pub loop-written-preserved : goal.loop-written-preserved
loop-written-preserved g c =
    let left = length c.args.bytes.now - c.loop-written.written in
    let within : c.in-Ok.count ≤ left = omega
    (arith, c.in-Ok.ensures.bound, length-take left (drop c.loop-written.written c.args.bytes.now)) in (
      omega arith,
      front_more _ _ _ c.args.bytes.now c.loop-written.written c.in-Ok.count within c.loop-written.invariant.1
          c.in-Ok.ensures.bytes,
    )
