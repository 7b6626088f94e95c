use Rattle.cn_cli.proofs.Common.{◌∙◌, ap, IfOk-weaker, app_of, with_rule}
use Rattle.cn_cli.proofs.command_line.with_flag.Goals as goal

pub returns : goal.returns
returns c =
    IfOk-weaker c.arg.result _ _
    (λ whole adds. rw c.in_ok-command.was
    (adds.shape c.flag.ensures.local ∙ ap (with_rule (app_of c.in_ok-command.field-0)) c.flag.ensures.rule)) c.arg.ensures
