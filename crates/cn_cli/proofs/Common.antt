-- What many proofs of this crate import: they import it here.
pub use Rattle.std.proofs.Common.{Bool, Err, List, MatchResult, Ok, Option, Result, Some, [], ap, ap₂, arith, codes, false, inl, inr, lit<, map, not, refl, rules, string_bytes, subst, sym, true, ℕ, ◌&&◌, ◌<◌, ◌^◌, ◌↔◌, ◌∙◌, ◌∷◌, ◌≡◌, ◌≤◌, ◌⊎◌}
pub use Rattle.clap.specs.Words.{App, IsAmong, Kinds, Row, Rule, Text, app_of, fault_of, found_of, is_simple, is_simple_and_free, kind_of, new_app, rows_of, subcommand_of, subcommand_rows_of, with_rule, with_subcommand}
pub use Rattle.std.specs.Prelude.{IfOk, IsErrOf, IsOkAnd, decimal}
pub use Rattle.cn_cli.specs.CommandLine.{check_words, command_line, flag_rule, network_words, option_with, renamer_words, replay_words, required_option, run_with_values, run_words, show_words}
pub use Rattle.std.proofs.lemmas.Result.{IfOk-weaker}
pub use Rattle.cn_spec.specs.declared.limits.TheConstants.{MOST_HAND, MOST_LEVEL, MOST_WORKERS}
pub use Rattle.cn_cli.specs.Choices.{Gives, GivesNumber, NamesNoRun}
pub use Rattle.cn_tables.specs.Widths.{IsWidth}
