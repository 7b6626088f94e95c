use Rattle.cn_texts.proofs.Common.{◌∙◌, shares, sym}
use Rattle.cn_texts.proofs.WritingLemmas.Putting.{put-failed, put-same, put-then}
use Rattle.cn_texts.proofs.WritingLemmas.RecordLines.{line-whole}
use Rattle.cn_texts.proofs.grants.tight.send_named.Goals as goal

pub returns-clause-puts : goal.returns-clause-puts
returns-clause-puts g c =
    let e = c.args.epoch in
    put-same (line-whole e.number e.clients (shares e.clients c.args.width))
    (put-then (rw c.from.ensures at c.send_tight_head.ensures) (put-then c.send_shares.ensures c.put.ensures))

pub returns-then-has_failed-clause-puts : goal.returns-then-has_failed-clause-puts
returns-then-has_failed-clause-puts g c = put-failed (sym c.has_failed.ensures ∙ c.if-has_failed.true)
