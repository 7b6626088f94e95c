use Rattle.cn_texts.proofs.Common.{arith, get_or, map, sym, get_or-map, length-map, NamedEpoch, with_shares, tight_line}
use Rattle.cn_texts.proofs.WritingLemmas.Putting.{put-last, put-next, put-none}
use Rattle.cn_texts.proofs.grants.tight.send_named_epochs.Goals as goal

pub loop-epoch-init : goal.loop-epoch-init
loop-epoch-init g c = put-none

pub loop-epoch-preserved : goal.loop-epoch-preserved
loop-epoch-preserved g c =
    let epochs = c.args.epochs.now in
    let i = c.loop-epoch.epoch-index in
    let none : NamedEpoch = record { number = 0; clients = 0 } in
    let part = with_shares c.args.width in
    let many = length-map epochs part in
    put-next tight_line (map part epochs) i (part none) (part (get_or epochs i none)) (omega (arith, many, c.loop-epoch-test.true))
    (sym (get_or-map part epochs i none (part none) c.loop-epoch-test.true)) c.loop-epoch.invariant c.send_named.ensures.puts

pub returns : goal.returns
returns g c =
    let part = with_shares c.args.width in
    let many = length-map c.args.epochs.now part in
    put-last tight_line (map part c.args.epochs.now) c.loop-epoch.epoch-index (omega (arith, many, c.loop-epoch-test.false))
    c.loop-epoch.invariant
