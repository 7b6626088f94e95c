-- What epochs hold.
use Rattle.std.specs.Prelude.{◌≡◌, false, List, []}
use Rattle.cn_core.specs.declared.event.Event.{Event}
use Rattle.cn_core.specs.History as core
use Rattle.cn_epoch.specs.declared.epochs.Epochs.TheInside.{Inside}
use Rattle.cn_epoch.specs.History.{Epochs}

-- the epochs that contracts see
abbrev pub epochs_of : Inside → Epochs
epochs_of e = record { number = e.number; carries = e.carries; core = e.core }

-- the epochs are those of their network, and if turns clear, no epoch came before
pub record IsEpochs (e : Inside) : Type 0 where
  pub network : e.core.network ≡ e.network.now
  pub cleared : e.carries ≡ false → (history : List Event) × core.Agrees e.core history []
