use Rattle.cn_cli.proofs.Common.{◌≡◌, refl, codes, IfOk, Ok, app_of, new_app, with_rule, flag_rule, required_option}
use Rattle.cn_cli.proofs.Drafts.{argued}
use Rattle.cn_cli.proofs.command_line.check_command.Goals as goal

pub returns : goal.returns
returns c =
    let check = new_app (codes "check") in
    let width = required_option (codes "width") in
    let large = flag_rule (codes "large") in
    let with_width : IfOk c.with_option-command.result (λ draft. app_of draft ≡ with_rule check width) =
    argued app_of (Ok c.described_command.result) c.with_option-command.result check
    width width c.described_command.ensures refl c.with_option-command.ensures in
    argued app_of c.with_option-command.result c.with_flag.result (with_rule check width)
    large large with_width refl c.with_flag.ensures
