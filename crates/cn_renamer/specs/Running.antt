-- Which epochs may be run, and by whom.
use Rattle.std.specs.Prelude.{◌≡◌, ℕ, ◌<◌, ◌≤◌, ◌*◌, ◌/◌, All, Bool, List, Option, Some, None, length, max, min, true, false}
use Rattle.cn_spec.specs.declared.limits.TheConstants.{MOST_NAMED}
use Rattle.cn_texts.specs.Reading.Batch.{MayCome, clients_of_epochs}
use Rattle.cn_texts.specs.Reading.Bounds.{bounds_of}
use Rattle.cn_texts.specs.declared.reading.batch.BatchEpoch.{BatchEpoch}
use Rattle.cn_cli.specs.Options.{Settings}
use Rattle.cn_renamer.specs.declared.epochs.TheConstants.{CLIENTS_FOR_A_THREAD}
use Rattle.cn_walk.specs.declared.crew.Crew.{Crew}

-- these epochs may be run on a network with so many entries, each on a floor of its own, and there is a place for each
-- client: the clients of each may come, and each has some
pub record MayRunAll (entries : ℕ) (epochs : List BatchEpoch) (places : ℕ) : Type 0 where
  pub come : All (λ e. MayCome (bounds_of true entries) e.clients.items) epochs
  pub some : All (λ e. 0 < length e.clients.items) epochs
  pub few : places ≤ MOST_NAMED
  pub all : places ≡ clients_of_epochs epochs

-- how many walk each epoch of a run: at a gate all workers that are asked for, and without one only one
abbrev pub walkers : {G : Type 0} → Option G → ℕ → ℕ
walkers (Some gate) asked = asked
walkers None asked = 1

-- how many walk each epoch of a run, if so many workers are asked for: all of them together, or else one
abbrev pub walkers_by : Bool → ℕ → ℕ
walkers_by true asked = asked
walkers_by false asked = 1

-- how many walk each epoch of a run that is asked for so
abbrev pub walkers_asked : Settings → ℕ
walkers_asked options = walkers_by options.together options.workers

-- those who walk each epoch, by the options
abbrev pub crew_of : {G : Type 0} → Option G → Settings → Crew
crew_of gate options = record { first = 0; workers = walkers gate options.workers; hand = options.hand }

-- one worker of a crew
abbrev pub of_one_worker : Crew → Crew
of_one_worker crew = record crew { workers = 1 }

-- how many of the workers that are asked for pay, if so many epochs with so many clients in all may run beside one
-- another: no more than one for each epoch and one for each 8,192 clients, and one at least
abbrev pub workers_that_pay : ℕ → ℕ → ℕ → ℕ
workers_that_pay asked epochs clients = max (min asked (min epochs (clients / CLIENTS_FOR_A_THREAD))) 1

-- how many of so many clients are those of half a crew, of an odd one of the smaller half
abbrev pub clients_of_half : Crew → ℕ → ℕ
clients_of_half crew clients = clients * (crew.workers / 2) / crew.workers
