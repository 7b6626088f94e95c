-- The command line, as clap is given it.
use Rattle.std.specs.Prelude.{true, codes, Option, Some, None, [], ◌∷◌}
use Rattle.clap.specs.declared.builder.action.ArgAction.TheVariants.{SetTrue}
use Rattle.clap.specs.Words.{App, Rule, Text, new_app, new_rule, with_rule, with_subcommand}

-- an option with one value, which has to be given
abbrev pub required_option : Text → Rule
required_option name = record (new_rule name) { long = Some name; value_names = 1; required = true }

-- an option with one value, which is this one if none is given
abbrev pub option_with : Text → Text → Rule
option_with default name =
    record (new_rule name) { long = Some name; value_names = 1; defaults = default ∷ [] }

-- an option with one value, which has to be given if it has no default
abbrev pub option_rule : Option Text → Text → Rule
option_rule None name = required_option name
option_rule (Some default) name = option_with default name

-- a flag, which has no value
abbrev pub flag_rule : Text → Rule
flag_rule name = record (new_rule name) { long = Some name; action = Some SetTrue }

-- SUBCOMMAND --network N --width W
abbrev pub network_words : Text → App
network_words name =
    with_rule (with_rule (new_app name) (required_option (codes "network")))
    (required_option (codes "width"))

-- run --network N --width W [--workers K] [--hand H] [--form F]
abbrev pub run_with_values : App
run_with_values =
    with_rule (with_rule (with_rule (network_words (codes "run"))
    (option_with (codes "1") (codes "workers")))
    (option_with (codes "1") (codes "hand")))
    (option_with (codes "report") (codes "form"))

-- the same, with [--carry] [--large] [--together]
abbrev pub run_words : App
run_words =
    with_rule (with_rule (with_rule run_with_values (flag_rule (codes "carry")))
    (flag_rule (codes "large")))
    (flag_rule (codes "together"))

-- replay --network N --width W
abbrev pub replay_words : App
replay_words = network_words (codes "replay")

-- check --width W [--large]
abbrev pub check_words : App
check_words =
    with_rule (with_rule (new_app (codes "check")) (required_option (codes "width"))) (flag_rule (codes "large"))

-- show --network N --width W
abbrev pub show_words : App
show_words = network_words (codes "show")

-- a command of which a subcommand has to be given, and which shows its help if no word is given
abbrev pub with_need : App → App
with_need app = record app { top = record app.top { subcommand_required = true; arg_required_else_help = true } }

-- a command that has a version, which --version and -V ask for
abbrev pub with_version : App → App
with_version app = record app { top = record app.top { has_version = true } }

-- the program's name, which is never one of its words, its version, and a subcommand that has to be given
abbrev pub renamer_words : App
renamer_words = with_version (with_need (new_app (codes "renamer")))

-- the whole command line
abbrev pub command_line : App
command_line =
    with_subcommand (with_subcommand (with_subcommand (with_subcommand renamer_words run_words.top)
    replay_words.top) check_words.top) show_words.top
