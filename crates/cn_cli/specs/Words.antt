-- What the words of a command line ask for, and what a refusal of them ends with.
use Rattle.std.specs.Prelude.{◌≡◌, ◌≢◌, ◌⊎◌, ℕ, List, [], ◌∷◌, Option, Some, None, ⊤, codes, true, false}
use Rattle.clap.specs.Words.{IsAmong, Kinds, Row, Text, fault_of, subcommand_of}
use Rattle.clap.specs.declared.error.ErrorKind.{ErrorKind}
use Rattle.clap.specs.declared.error.ErrorKind.TheVariants.{DisplayHelp, DisplayVersion, OutOfMemory}
use Rattle.cn_tables.specs.Widths.{IsWidth}
use Rattle.cn_cli.specs.Choices.{NamesCheck, NamesNetwork, NamesRun}
use Rattle.cn_cli.specs.CommandLine.{command_line}
use Rattle.cn_cli.specs.Options.{SettingsFit}
use Rattle.cn_cli.specs.declared.choices.ChoiceFault.{ChoiceFault}
use Rattle.cn_cli.specs.declared.choices.ChoiceFault.TheVariants as choice
use Rattle.cn_cli.specs.declared.words.Job.{Job}
use Rattle.cn_cli.specs.declared.words.Job.TheVariants.{Check, CheckLarge, Replay, Run, Show}
use Rattle.cn_cli.specs.declared.words.WordsFault.{WordsFault}
use Rattle.cn_cli.specs.declared.words.WordsFault.TheVariants.{Help, Refused, Memory}

-- the status that a fault ends the program with
abbrev pub status_of_words : WordsFault → ℕ
status_of_words (Help text) = 0
status_of_words (Refused text) = 2
status_of_words Memory = 3

-- a subcommand with its options asks for this job: it is the job's, the options name what the job has
-- and nothing else, and all of it is within the limits
abbrev pub Asks : Option (Text × List Row) → Job → Type 0
Asks None job = ⊥
Asks (Some (name, options)) (Run settings) =
    (name ≡ codes "run") × NamesRun options settings × SettingsFit settings
Asks (Some (name, options)) (Replay net) =
    (name ≡ codes "replay") × NamesNetwork options net × IsWidth net.width
Asks (Some (name, options)) (Check width) =
    (name ≡ codes "check") × NamesCheck options width false × IsWidth width
Asks (Some (name, options)) (Show net) =
    (name ≡ codes "show") × NamesNetwork options net × IsWidth net.width
Asks (Some (name, options)) (CheckLarge width) =
    (name ≡ codes "check") × NamesCheck options width true × IsWidth width

-- a check with these options
abbrev pub asked_check : List Row → Option (Text × List Row)
asked_check options = Some (codes "check", options)

-- it asks for no job
abbrev pub AsksNone : Option (Text × List Row) → Type 0
AsksNone chosen = (job : Job) → ¬ Asks chosen job

-- what clap has against the words, which is nothing if it takes them
abbrev pub faults_in : List Text → Kinds
faults_in words = fault_of command_line words

-- the words are taken, and ask for this job
abbrev pub IsJobOf : List Text → Job → Type 0
IsJobOf words job = (faults_in words ≡ []) × Asks (subcommand_of command_line words) job

-- help or the version only if that may be clap's answer, a refusal only if neither has to be its answer; and the words
-- ask for no job
abbrev pub IsFaultOf : List Text → WordsFault → Type 0
IsFaultOf words (Help text) = IsAmong DisplayHelp (faults_in words) ⊎ IsAmong DisplayVersion (faults_in words)
IsFaultOf words (Refused text) =
    ((job : Job) → IsJobOf words job → ⊥)
    × (faults_in words ≢ DisplayHelp ∷ []) × (faults_in words ≢ DisplayVersion ∷ [])
IsFaultOf words Memory = ⊤

-- what answers an error of clap of this kind
abbrev pub IsFaultBy : ErrorKind → WordsFault → Type 0
IsFaultBy kind (Help text) = (kind ≡ DisplayHelp) ⊎ (kind ≡ DisplayVersion)
IsFaultBy kind (Refused text) = (kind ≢ DisplayHelp) × (kind ≢ DisplayVersion) × (kind ≢ OutOfMemory)
IsFaultBy kind Memory = ⊤

-- what answers a subcommand with its options that asks for no job
abbrev pub IsRefusalOf : Option (Text × List Row) → WordsFault → Type 0
IsRefusalOf chosen (Help text) = ⊥
IsRefusalOf chosen (Refused text) = AsksNone chosen
IsRefusalOf chosen Memory = ⊤

-- what answers a fault of options
abbrev pub IsRefusalBy : ChoiceFault → WordsFault → Type 0
IsRefusalBy fault (Help text) = ⊥
IsRefusalBy fault (Refused text) = fault ≢ choice.Memory
IsRefusalBy fault Memory = ⊤
