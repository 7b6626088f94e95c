use Rattle.cn_cli.proofs.Common.{rules, subst, codes, found_of, rows_of, IsWidth}
use Rattle.cn_cli.proofs.WordNumbers.{one_number, width-fits}
use Rattle.cn_cli.proofs.choices.chosen_width.Goals as goal

pub returns-else-is_width : goal.returns-else-is_width
returns-else-is_width c memory width is gives =
    let given = rows_of (found_of c.args.options.now) in
    let same = one_number given (codes "width") width c.in-Some.width (gives, width-fits width is) (search rules) in
    cc (rw c.if-is_width.false at (c.is_width.ensures.1 (subst IsWidth same is)))
