use Rattle.cn_texts.proofs.Common.{length, map, refl, with_shares, tight_text}
use Rattle.cn_texts.proofs.WritingLemmas.Putting.{put-all, put-same, put-then}
use Rattle.cn_texts.proofs.WritingLemmas.RecordLines.{end-same}
use Rattle.cn_texts.proofs.grants.tight.write_tight.Goals as goal

pub returns : goal.returns
returns g c =
    let epochs = c.args.epochs.now in
    let end = put-same (end-same (with_shares c.args.width) epochs (length epochs) c.count_named-grants.result refl
    c.count_named-grants.ensures) c.send_tight_end.ensures in
    c.finish.ensures c.args.writer.now (tight_text (map (with_shares c.args.width) epochs))
    (put-all c.requires.fresh (put-then c.send_named_epochs.ensures end))
