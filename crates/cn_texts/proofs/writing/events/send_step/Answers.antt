use Rattle.cn_texts.proofs.Common.{◌≡◌, ◌∙◌, ap, sym, StepRefused, step_line}
use Rattle.cn_ledger.specs.declared.reply.StepFault.{StepFault}
use Rattle.cn_ledger.specs.declared.reply.StepFault.TheVariants.{HasName, Stranger}
use Rattle.cn_texts.proofs.WritingLemmas.Putting.{put-same}
use Rattle.cn_texts.proofs.writing.events.send_step.Goals as goal

pub returns-in-Stepped : goal.returns-in-Stepped
unfolding step_line
returns-in-Stepped g c = put-same (ap (step_line c.args.client) (sym c.in-Stepped.is)) c.send_moved.ensures

pub returns-in-StepRefused-Stranger : goal.returns-in-StepRefused-Stranger
unfolding step_line
returns-in-StepRefused-Stranger g c =
    let w = c.in-StepRefused-Stranger in
    let fault : w.field-0 ≡ Stranger = rw w.is at w.field-0-is in
    put-same (ap (step_line c.args.client) (sym (w.is ∙ ap (λ (f : StepFault). StepRefused f) fault))) c.send_numbered.ensures

pub returns-in-StepRefused-HasName : goal.returns-in-StepRefused-HasName
unfolding step_line
returns-in-StepRefused-HasName g c =
    let w = c.in-StepRefused-HasName in
    let fault : w.field-0 ≡ HasName w.name = rw w.is at w.field-0-is in
    put-same (ap (step_line c.args.client) (sym (w.is ∙ ap (λ (f : StepFault). StepRefused f) fault))) c.send_line.ensures
