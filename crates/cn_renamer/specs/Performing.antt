-- What the program writes, and what it ends with.
use Rattle.std.specs.Prelude.{ℕ, ◌≡◌, List, MatchResult, IfErr, Option, Result, Ok, Err, string_bytes, true, false}
use Rattle.clap.specs.Words.{Text}
use Rattle.cn_tables.specs.Widths.{IsWidth}
use Rattle.cn_texts.specs.Writing.Written.{HasWritten, Written, Nothing, written_by}
use Rattle.cn_cli.specs.Words.{IsFaultOf, IsJobOf}
use Rattle.cn_cli.specs.declared.words.Job.{Job}
use Rattle.cn_cli.specs.declared.words.Job.TheVariants as job
use Rattle.cn_cli.specs.declared.words.WordsFault.{WordsFault}
use Rattle.cn_cli.specs.declared.words.WordsFault.TheVariants as words
use Rattle.cn_renamer.specs.declared.fault.Fault.{Fault}
use Rattle.cn_renamer.specs.declared.fault.Fault.TheVariants.{Refused, Runtime, Serve, Replay, Check, Output}
use Rattle.cn_renamer.specs.declared.output_fault.OutputFault.TheVariants as output
use Rattle.cn_renamer.specs.Check.{IsCheckFault, IsCheckOfKnown, status_of_check, until_check}
use Rattle.cn_renamer.specs.Outputs.{until_output}
use Rattle.cn_renamer.specs.Replay.{IsReplayFault, IsReplayOfKnown, status_of_replay, until_replay}
use Rattle.cn_renamer.specs.Headline.{IsRunInOrderOfKnown, IsRunOfKnown}
use Rattle.cn_renamer.specs.Running.{walkers_asked}
use Rattle.cn_renamer.specs.Serve.{IsServeFault, status_of_serve, until_serve}
use Rattle.cn_renamer.specs.Show.{IsWiringOf}

-- the width of a check is one of which networks are built; the other jobs have a network that is built
abbrev pub IsBuiltFor : Job → Type 0
IsBuiltFor (job.Check width) = IsWidth width
IsBuiltFor (job.CheckLarge width) = IsWidth width
IsBuiltFor other = Unit {0}

-- the text of a job, by the bytes that its reader has left, if they are known; of a run with one client in hand the
-- names follow the order of the batch if one worker walks each epoch, as it does unless several workers are asked for
-- who are to walk it together
abbrev pub IsTextOf : Job → Option (List ℕ) → List ℕ → Type 0
IsTextOf (job.Run options) known text =
    IsRunOfKnown options.net options.form options.carry options.large known text
    × (walkers_asked options ≡ 1 → options.hand ≡ 1
    → IsRunInOrderOfKnown options.net options.form options.carry options.large known text)
IsTextOf (job.Replay net) known text = IsReplayOfKnown net known text
IsTextOf (job.Check width) known text = IsCheckOfKnown width false known text
IsTextOf (job.Show net) known text = IsWiringOf net text
IsTextOf (job.CheckLarge width) known text = IsCheckOfKnown width true known text

-- how much of its text a job has written that met a fault
abbrev pub until_fault : Fault → Written
until_fault (Refused text) = Nothing
until_fault (Runtime fault) = Nothing
until_fault (Serve fault) = until_serve fault
until_fault (Replay fault) = until_replay fault
until_fault (Check fault) = until_check fault
until_fault (Output fault) = until_output fault

-- the runtime refused arguments or random words, or the memory for them
abbrev pub IsOfRuntime : Fault → Type 0
IsOfRuntime (Runtime fault) = Unit {0}
IsOfRuntime (Output fault) = fault ≡ output.Memory
IsOfRuntime other = ⊥

-- the faults that a job may end with: its own, and if it asks for random words, that of their source
abbrev pub MayEnd : Job → Option (List ℕ) → Fault → Type 0
MayEnd (job.Run options) known (Serve fault) = IsServeFault options.net options.large known fault
MayEnd (job.Run options) known other = IsOfRuntime other
MayEnd (job.Replay net) known (Replay fault) = IsReplayFault known fault
MayEnd (job.Replay net) known other = IsOfRuntime other
MayEnd (job.Check width) known (Check fault) = IsCheckFault false known fault
MayEnd (job.Check width) known other = ⊥
MayEnd (job.Show net) known (Output fault) = Unit {0}
MayEnd (job.Show net) known other = ⊥
MayEnd (job.CheckLarge width) known (Check fault) = IsCheckFault true known fault
MayEnd (job.CheckLarge width) known other = ⊥

-- the text that answers words, by what is read of them
abbrev pub IsTextAsked : Result Job WordsFault → Option (List ℕ) → List ℕ → Type 0
IsTextAsked (Ok job) known text = IsTextOf job known text
IsTextAsked (Err (words.Help help)) known text = text ≡ string_bytes help
IsTextAsked (Err (words.Refused why)) known text = ⊥
IsTextAsked (Err words.Memory) known text = ⊥

-- the fault that answers words, by what is read of them
abbrev pub MayEndAsked : Result Job WordsFault → Option (List ℕ) → Fault → Type 0
MayEndAsked (Ok job) known fault = MayEnd job known fault
MayEndAsked (Err (words.Help help)) known fault = (why : _) × (fault ≡ Output why)
MayEndAsked (Err (words.Refused why)) known fault = fault ≡ Refused why
MayEndAsked (Err words.Memory) known fault = fault ≡ Output output.Memory

-- the words were read, and what they ask for was done, or its fault says why not
pub record HasRun {U W : Type 0} (texts : List Text) (known : Option (List ℕ)) (contents : W → Option (List ℕ))
    (old new : W) (answer : Result U Fault) : Type 0 where
  pub asked : Result Job WordsFault
  pub read : MatchResult asked (IsJobOf texts) (IsFaultOf texts)
  pub written : HasWritten contents (IsTextAsked asked known) (written_by until_fault answer) old new
  pub ends : IfErr answer (MayEndAsked asked known)

-- the status that a fault ends the program with: input that is refused 1, words that are refused 2, what could not be
-- done 3, a list that is not tight 4
abbrev pub status_of : Fault → ℕ
status_of (Refused text) = 2
status_of (Runtime fault) = 3
status_of (Serve fault) = status_of_serve fault
status_of (Replay fault) = status_of_replay fault
status_of (Check fault) = status_of_check fault
status_of (Output fault) = 3

-- the status of the program by its answer: 0 if all is done
abbrev pub status_by : {U : Type 0} → Result U Fault → ℕ
status_by (Ok done) = 0
status_by (Err fault) = status_of fault
