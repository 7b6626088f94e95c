use Rattle.cn_texts.proofs.Common.{ap, sym, EnterRefused, enter_line}
use Rattle.cn_ledger.specs.declared.reply.EnterFault.{EnterFault}
use Rattle.cn_texts.proofs.WritingLemmas.Putting.{put-same}
use Rattle.cn_texts.proofs.writing.events.send_refused.Goals as goal

pub returns-in-NoSuchEntry : goal.returns-in-NoSuchEntry
unfolding enter_line
returns-in-NoSuchEntry g c = put-same (ap (λ (f : EnterFault). enter_line c.args.client c.args.entry (EnterRefused f))
    (sym c.in-NoSuchEntry.is)) c.send_numbered.ensures

pub returns-in-AlreadyIn : goal.returns-in-AlreadyIn
unfolding enter_line
returns-in-AlreadyIn g c = put-same (ap (λ (f : EnterFault). enter_line c.args.client c.args.entry (EnterRefused f))
    (sym c.in-AlreadyIn.is)) c.send_numbered-in-AlreadyIn.ensures

pub returns-in-EpochFull : goal.returns-in-EpochFull
unfolding enter_line
returns-in-EpochFull g c = put-same (ap (λ (f : EnterFault). enter_line c.args.client c.args.entry (EnterRefused f))
    (sym c.in-EpochFull.is)) c.send_numbered-in-EpochFull.ensures
