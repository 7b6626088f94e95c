use Rattle.cn_texts.proofs.Common.{◌-◌, ◌∙◌, arith, drop, length-drop, length-take, refl, take_all}
use Rattle.cn_texts.proofs.WritingLemmas.Putting.{put-same}
use Rattle.cn_texts.proofs.writing.line.send_grant.Goals as goal

pub make_grant-start-requires : goal.make_grant-start-requires
make_grant-start-requires g c = record { room = refl; feed = refl }

pub put-requires : goal.put-requires
put-requires g c =
    let made = c.make_grant-start in
    omega (arith, length-take (64 - made.result) (drop made.result made.new.line))

pub returns : goal.returns
returns g c =
    let made = c.make_grant-start in
    let rest = drop made.result made.new.line in
    put-same (take_all (64 - made.result) rest (omega (arith, made.auto.line, length-drop made.result made.new.line))
    ∙ made.ensures.written) c.put.ensures
