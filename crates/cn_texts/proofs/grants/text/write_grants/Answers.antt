use Rattle.cn_texts.proofs.Common.{grants_text}
use Rattle.cn_texts.proofs.WritingLemmas.Putting.{put-all, put-then}
use Rattle.cn_texts.proofs.grants.text.write_grants.Goals as goal

pub returns : goal.returns
returns g c carry width records are =
    c.finish.ensures c.args.writer.now (grants_text records)
    (put-all c.requires.fresh (put-then c.send_header.ensures (c.send_all_names.ensures carry width records are)))
