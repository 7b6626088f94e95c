use Rattle.cn_cli.proofs.Common.{rules, found_of, rows_of}
use Rattle.cn_cli.proofs.OneRun.{refused-numbers}
use Rattle.cn_cli.proofs.choices.chosen_options.Goals as goal

pub returns-in-Err : goal.returns-in-Err
returns-in-Err c _ =
    let given = rows_of (found_of c.args.options.now) in
    refused-numbers given c.in-Some.workers c.in-Some-2.hand c.new.result c.in-Err.fault (search rules) (search rules) c.new.ensures.workers
    c.new.ensures.hand c.in-Err.is
