use Rattle.cn_cli.proofs.Common.{refl, codes, Ok, app_of, new_app, with_rule, required_option}
use Rattle.cn_cli.proofs.Drafts.{argued}
use Rattle.cn_cli.proofs.command_line.network_command.Goals as goal

pub returns : goal.returns
returns c =
    let named = new_app c.args.name.now in
    let network = required_option (codes "network") in
    let kind = argued app_of (Ok c.described_command.result) c.with_option-command.result named network network
    c.described_command.ensures refl c.with_option-command.ensures in
    let width = required_option (codes "width") in
    argued app_of c.with_option-command.result c.with_option.result (with_rule named network) width width
    kind refl c.with_option.ensures
