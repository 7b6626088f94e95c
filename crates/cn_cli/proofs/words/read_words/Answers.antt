use Rattle.cn_cli.proofs.Common.{◌≡◌, ◌∙◌, ap, sym, List, map, string_bytes, App, Text, app_of, fault_of, is_simple, is_simple_and_free, kind_of, subcommand_of, subcommand_rows_of, command_line}
use Rattle.cn_cli.proofs.Readings.{answer_to-fault, answer_to-taken, command-line-is_free, command-line-is_simple}
use Rattle.cn_cli.proofs.words.read_words.Goals as goal

pub returns-in-Ok : goal.returns-in-Ok
returns-in-Ok c =
    let command_is : app_of c.in_ok-command.command ≡ command_line = c.in_ok-command.ensures in
    let words : List Text = map string_bytes c.args.words.now in
    let taken = c.in-Ok.ensures.kinds (ap is_simple_and_free command_is ∙ command-line-is_free) in
    let read = c.in-Ok.ensures.matches (ap is_simple command_is ∙ command-line-is_simple) in
    answer_to-taken words (subcommand_rows_of c.in-Ok.matches) c.asked_job.result
    (ap (λ (app : App). fault_of app words) (sym command_is) ∙ taken)
    (read.1 ∙ ap (λ (app : App). subcommand_of app words) command_is) c.asked_job.ensures

pub returns-in-Err : goal.returns-in-Err
returns-in-Err c =
    let command_is : app_of c.in_ok-command.command ≡ command_line = c.in_ok-command.ensures in
    let words : List Text = map string_bytes c.args.words.now in
    let failed = c.in-Err.ensures.kinds (ap is_simple_and_free command_is ∙ command-line-is_free) in
    answer_to-fault (app_of c.in_ok-command.command) words (kind_of c.in-Err.error) c.of_parse.result
    command_is failed c.of_parse.ensures
