use Rattle.cn_cli.proofs.Common.{◌∙◌, found_of}
use Rattle.clap.proofs.WalkLemmas.{first_value-rows}
use Rattle.cn_cli.proofs.choices.value_of.Goals as goal

pub returns : goal.returns
returns c = c.get_str.ensures ∙ first_value-rows (found_of c.args.options.now) c.args.name.now
