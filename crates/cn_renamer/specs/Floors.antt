-- The floors on which the clients of a run walked.
use Rattle.std.specs.Prelude.{◌≡◌, [], ◌∷◌, Bool, IfSome, List, Option, ⊤, ℕ}
use Rattle.std.specs.List.{AllZip, flat_map}
use Rattle.cn_tables.specs.Network.{Network}
use Rattle.cn_ledger.specs.declared.record.EpochRecord.{EpochRecord}
use Rattle.cn_floor.specs.Carried.{words_before, zero_words}
use Rattle.cn_floor.specs.Ends.{ListsHolders, QuietValue, counts_by_exit}
use Rattle.cn_walk.specs.Runner.{RunnerValue, next_runner}
use Rattle.cn_walk.specs.Runs.{IsRunAfter}
use Rattle.cn_walk.specs.declared.crew.Crew.{Crew}
use Rattle.cn_texts.specs.declared.reading.batch.BatchEpoch.{BatchEpoch}
use Rattle.cn_nets.specs.Net.{Description}
use Rattle.cn_cli.specs.declared.options.Form.{Form}
use Rattle.cn_renamer.specs.Headline.{IsRunOf, ids_of}

-- the clients of the epoch, and nobody else, walked on the floor
abbrev pub WalkedOn : BatchEpoch → QuietValue → Type 0
WalkedOn epoch floor = IsRunAfter (words_before floor.start) epoch.clients.items floor

-- the floors are those of a runner: each began with the words that it had then
unfoldable pub AreOfRunner : RunnerValue → List QuietValue → Type 0
AreOfRunner runner [] = ⊤
AreOfRunner runner (floor ∷ floors) =
    (words_before floor.start ≡ runner.words) × AreOfRunner (next_runner runner floor) floors

-- a runner that begins: its words are all 0
abbrev pub new_runner : Bool → Network → RunnerValue
new_runner carry network = record { words = zero_words network; carries = carry }

-- the record is that of the floor: the counts are how many left by each of its exits, and each holder was granted its
-- name there
pub record IsOfFloor (floor : QuietValue) (r : EpochRecord) : Type 0 where
  pub counts : r.counts.items ≡ counts_by_exit floor.start floor.words
  pub holders : ListsHolders floor.did.grants r.holders.items

-- this text is that of a run of the bytes, and its records are those of these floors, on which the clients walked,
-- epoch by epoch; with carry each floor went on from the words of the one before, without it each began with words that
-- are 0
pub record IsRunOnFloors (net : Description) (form : Form) (carry large : Bool) (floors : List QuietValue)
    (bytes text : List ℕ) : Type 0 where
  pub run : IsRunOf net form carry large bytes text
  pub began : AreOfRunner (new_runner carry run.network) floors
  pub walked : AllZip WalkedOn run.epochs floors
  pub records : AllZip IsOfFloor floors run.records

-- this text is that of such a run of the bytes that a reader has left, if they are known
abbrev pub IsRunOnFloorsOfKnown :
    Description → Form → Bool → Bool → List QuietValue → Option (List ℕ) → List ℕ → Type 0
IsRunOnFloorsOfKnown net form carry large floors known text =
    IfSome known (λ bytes. IsRunOnFloors net form carry large floors bytes text)

-- ---- while they run

-- the clients of these epochs walked on these floors of a runner, and these are the holders of all their names: those
-- of the first epoch by rising name, then those of the next. By a crew of one worker with one client in hand they
-- follow the order of the batch
pub record HaveWalked (crew : Crew) (runner : RunnerValue) (epochs : List BatchEpoch) (floors : List QuietValue)
    (holders : List ℕ) : Type 0 where
  pub began : AreOfRunner runner floors
  pub walked : AllZip WalkedOn epochs floors
  pub lists : List (List ℕ)
  pub listed : AllZip (λ floor list. ListsHolders floor.did.grants list) floors lists
  pub all : holders ≡ flat_map (λ list. list) lists
  pub in_order : crew.workers ≡ 1 → crew.hand ≡ 1 → holders ≡ flat_map ids_of epochs

-- the runner after these floors
abbrev pub runner_after : RunnerValue → List QuietValue → RunnerValue
runner_after runner [] = runner
runner_after runner (floor ∷ floors) = runner_after (next_runner runner floor) floors
