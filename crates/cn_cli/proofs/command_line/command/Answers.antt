use Rattle.cn_cli.proofs.Common.{◌≡◌, ◌∙◌, ap, ap₂, refl, true, IfOk, IsOkAnd, Result, Ok, Err, IfOk-weaker, App, app_of, with_subcommand, check_words, renamer_words, replay_words, run_words, show_words}
use Rattle.cn_cli.proofs.command_line.command.Goals as goal

-- a command with a subcommand that got its memory, where it is known what both are
taken : {C E : Type 0} (app : C → App) (made : Result C E) (whole before first sub : App) → before ≡ first
    → IfOk made (λ part. app part ≡ sub) → IsOkAnd made (λ part. whole ≡ with_subcommand before (app part).top)
    → whole ≡ with_subcommand first sub.top
taken app (Ok part) whole before first sub was is with = with ∙ ap₂ with_subcommand was (ap (λ (a : App). a.top) is)
taken app (Err e) whole before first sub was is with = absurd with

-- what is known whole is plain where that is
plain : {C E : Type 0} (app : C → App) (made : Result C E) (sub : App) → sub.top.is_plain ≡ true
    → IfOk made (λ part. app part ≡ sub) → IfOk made (λ part. (app part).top.is_plain ≡ true)
plain app made sub is = IfOk-weaker made _ _ (λ part known. ap (λ (a : App). a.top.is_plain) known ∙ is)

pub with-requires : goal.with-requires
with-requires c = plain app_of c.run_command.result run_words refl c.run_command.ensures

pub with-requires-2 : goal.with-requires-2
with-requires-2 c = plain app_of c.network_command-replay.result replay_words refl c.network_command-replay.ensures

pub with-requires-3 : goal.with-requires-3
with-requires-3 c = plain app_of c.check_command.result check_words refl c.check_command.ensures

pub with-requires-4 : goal.with-requires-4
with-requires-4 c = plain app_of c.network_command-show.result show_words refl c.network_command-show.ensures

pub returns : goal.returns
returns c =
    let with_run = with_subcommand renamer_words run_words.top in
    let with_replay = with_subcommand with_run replay_words.top in
    let with_check = with_subcommand with_replay check_words.top in
    let run : app_of c.in_ok-renamer.renamer ≡ with_run =
    taken app_of c.run_command.result _ _ renamer_words run_words c.renamer_command-renamer.ensures c.run_command.ensures
    c.in_ok-renamer.ensures in
    let replay : app_of c.in_ok-renamer-2.renamer ≡ with_replay =
    taken app_of c.network_command-replay.result _ _ with_run replay_words run c.network_command-replay.ensures c.in_ok-renamer-2.ensures in
    let check : app_of c.in_ok-renamer-3.renamer ≡ with_check =
    taken app_of c.check_command.result _ _ with_replay check_words replay c.check_command.ensures c.in_ok-renamer-3.ensures in
    IfOk-weaker c.with-4.result _ _ (λ command h.
    taken app_of c.network_command-show.result _ _ with_check show_words check c.network_command-show.ensures h) c.with-4.ensures
