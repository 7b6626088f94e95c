-- What a run is asked for beside its batch.
use Rattle.std.specs.Prelude.{ℕ, Bool}
use Rattle.cn_spec.specs.Workers.{HandFits, WorkersFit}
use Rattle.cn_tables.specs.Widths.{IsWidth}
use Rattle.cn_nets.specs.Net.{Description}
use Rattle.cn_cli.specs.declared.options.Form.{Form}

-- a network, how many workers walk it, how many tokens each has in hand at most, what is written, whether its counters
-- are carried from epoch to epoch, whether the batch may be a large one, and whether the workers walk each epoch
-- together
pub record Settings : Type 0 where
  pub net : Description
  pub workers : ℕ
  pub hand : ℕ
  pub form : Form
  pub carry : Bool
  pub large : Bool
  pub together : Bool

-- the network is built, and both numbers are within their limits
abbrev pub SettingsFit : Settings → Type 0
SettingsFit settings =
    IsWidth settings.net.width × WorkersFit settings.workers × HandFits settings.hand
