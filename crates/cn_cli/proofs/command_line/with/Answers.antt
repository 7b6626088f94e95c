use Rattle.cn_cli.proofs.Common.{arith, ◌≡◌, ◌&&◌, Bool, not, true, false, IfOk, IfOk-weaker, app_of}
use Rattle.cn_cli.proofs.command_line.with.Goals as goal

-- of a plain command the third test is that it has no global argument
has_no_global : (groups external globals others : Bool) → groups && (external && (not globals && others)) ≡ true → globals ≡ false
has_no_global groups external globals others plain = grind arith

pub returns : goal.returns
returns c =
    let asked : IfOk c.args.subcommand (λ made. (app_of made).top.is_plain ≡ true) = c.requires in
    let plain : (app_of c.in_ok-subcommand.field-0).top.is_plain ≡ true = rw c.in_ok-subcommand.was at asked in
    IfOk-weaker c.subcommand.result _ _
    (λ whole adds. rw c.in_ok-subcommand.was (adds.shape (has_no_global _ _ _ _ plain)))
    c.subcommand.ensures
