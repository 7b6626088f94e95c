-- What the options of a subcommand name.
use Rattle.std.specs.Prelude.{◌≡◌, ◌<◌, ◌^◌, ℕ, Bool, true, false, List, Some, codes, decimal}
use Rattle.clap.specs.Words.{Row, Text, first_of}
use Rattle.cn_tables.specs.Kinds.{kind_word}
use Rattle.cn_tables.specs.Widths.{IsWidth}
use Rattle.cn_nets.specs.Net.{Description}
use Rattle.cn_cli.specs.Options.{SettingsFit, Settings}
use Rattle.cn_cli.specs.declared.options.Form.{Form}
use Rattle.cn_cli.specs.declared.options.Form.TheVariants.{Report, Grants}

-- the word for what a run writes
abbrev pub form_word : Form → Text
form_word Report = codes "report"
form_word Grants = codes "grants"

-- the option of this name has this value
abbrev pub Gives : List Row → Text → Text → Type 0
Gives options name value = first_of name options ≡ Some value

-- the flag of this name stands among the options, or it does not
abbrev pub Flags : List Row → Text → Bool → Type 0
Flags options name true = Gives options name (codes "true")
Flags options name false = ¬ Gives options name (codes "true")

-- the options name this width, in decimal digits
abbrev pub NamesWidth : List Row → ℕ → Type 0
NamesWidth options width = Gives options (codes "width") (decimal width)

-- the options name this network: its kind by the word for it, and its width
pub record NamesNetwork (options : List Row) (net : Description) : Type 0 where
  pub kind : Gives options (codes "network") (kind_word net.kind)
  pub width : NamesWidth options net.width

-- the options name these settings of a run: the network, both numbers in decimal digits, the form by
-- the word for it, and by flags that counters are carried, that the batch may be large, and that the workers walk each
-- epoch together
pub record NamesRun (options : List Row) (settings : Settings) : Type 0 where
  pub net : NamesNetwork options settings.net
  pub workers : Gives options (codes "workers") (decimal settings.workers)
  pub hand : Gives options (codes "hand") (decimal settings.hand)
  pub form : Gives options (codes "form") (form_word settings.form)
  pub carry : Flags options (codes "carry") settings.carry
  pub large : Flags options (codes "large") settings.large
  pub together : Flags options (codes "together") settings.together

-- the options name what is asked of a check: a width, and by a flag that the list may be large
abbrev pub NamesCheck : List Row → ℕ → Bool → Type 0
NamesCheck options width large = NamesWidth options width × Flags options (codes "large") large

-- the option of this name has the decimal digits of this number of 32 bits
abbrev pub GivesNumber : List Row → Text → ℕ → Type 0
GivesNumber options name number = Gives options name (decimal number) × (number < 2 ^ 32)

-- it has the digits of no such number
abbrev pub GivesNoNumber : List Row → Text → Type 0
GivesNoNumber options name = (number : ℕ) → ¬ GivesNumber options name number

-- the options name no width of a network
abbrev pub NamesNoWidth : List Row → Type 0
NamesNoWidth options = (width : ℕ) → IsWidth width → ¬ NamesWidth options width

-- the options name no network that is built
abbrev pub NamesNoNet : List Row → Type 0
NamesNoNet options = (net : Description) → NamesNetwork options net → ¬ IsWidth net.width

-- the options name no settings that are within their limits
abbrev pub NamesNoRun : List Row → Type 0
NamesNoRun options = (settings : Settings) → NamesRun options settings → ¬ SettingsFit settings
