use Rattle.cn_cli.proofs.Common.{◌≡◌, refl, codes, IfOk, app_of, with_rule, network_words, flag_rule, option_with, run_with_values}
use Rattle.cn_cli.proofs.Drafts.{argued}
use Rattle.cn_cli.proofs.command_line.run_command.Goals as goal

pub returns : goal.returns
returns c =
    let run = network_words (codes "run") in
    let workers = option_with (codes "1") (codes "workers") in
    let hand = option_with (codes "1") (codes "hand") in
    let form = option_with (codes "report") (codes "form") in
    let with_workers = argued app_of c.network_command-command.result c.with_option-command.result run workers workers
    c.network_command-command.ensures refl c.with_option-command.ensures in
    let with_hand = argued app_of c.with_option-command.result c.with_option-command-2.result (with_rule run workers)
    hand hand with_workers refl c.with_option-command-2.ensures in
    let with_form : IfOk c.with_option-command-3.result (λ draft. app_of draft ≡ run_with_values) =
    argued app_of c.with_option-command-2.result c.with_option-command-3.result
    (with_rule (with_rule run workers) hand) form form with_hand refl c.with_option-command-3.ensures in
    let carry = flag_rule (codes "carry") in
    let large = flag_rule (codes "large") in
    let together = flag_rule (codes "together") in
    let with_carry = argued app_of c.with_option-command-3.result c.with_flag-command.result run_with_values
    carry carry with_form refl c.with_flag-command.ensures in
    let with_large = argued app_of c.with_flag-command.result c.with_flag-command-2.result (with_rule run_with_values carry)
    large large with_carry refl c.with_flag-command-2.ensures in
    argued app_of c.with_flag-command-2.result c.with_flag.result (with_rule (with_rule run_with_values carry) large)
    together together with_large refl c.with_flag.ensures
