-- From what clap reads of the words to what answers them.
use Rattle.cn_cli.proofs.Common.{◌≡◌, ◌⊎◌, List, [], ◌∷◌, Option, Result, Ok, Err, MatchResult, inl, inr, subst, sym, refl, true, App, IsAmong, Kinds, Row, Text, fault_of, is_simple, is_simple_and_free, subcommand_of, command_line}
use Rattle.clap.specs.declared.error.ErrorKind.{ErrorKind}
use Rattle.clap.specs.declared.error.ErrorKind.TheVariants.{DisplayHelp, DisplayVersion, OutOfMemory}
use Rattle.clap.proofs.OnLiterals.{clap_on_literals}
use Rattle.cn_cli.specs.Words.{Asks, IsFaultBy, IsFaultOf, IsJobOf, IsRefusalOf, faults_in}
use Rattle.cn_cli.specs.declared.words.Job.{Job}
use Rattle.cn_cli.specs.declared.words.WordsFault.{WordsFault}
use Rattle.cn_cli.specs.declared.words.WordsFault.TheVariants.{Help, Refused, Memory}

-- clap says exactly what it reads of this command line
pub command-line-is_simple : is_simple command_line ≡ true
unfolding clap_on_literals
command-line-is_simple = refl

pub command-line-is_free : is_simple_and_free command_line ≡ true
unfolding clap_on_literals
command-line-is_free = refl

pub answer_to-taken : (words : List Text) (chosen : Option (Text × List Row)) (answer : Result Job WordsFault)
    → faults_in words ≡ [] → chosen ≡ subcommand_of command_line words
    → MatchResult answer (Asks chosen) (IsRefusalOf chosen) → MatchResult answer (IsJobOf words) (IsFaultOf words)
answer_to-taken words chosen (Ok job) taken read asked = (taken, subst (λ (o : Option (Text × List Row)). Asks o job) read asked)
answer_to-taken words chosen (Err (Help text)) taken read refused = absurd refused
answer_to-taken words chosen (Err (Refused text)) taken read refused =
    (λ job h. refused job (subst (λ (o : Option (Text × List Row)). Asks o job) (sym read) h.1), λ e. cc, λ e. cc)
answer_to-taken words chosen (Err Memory) taken read refused = tt

among_none : (kind : ErrorKind) (kinds : Kinds) → kinds ≡ [] → IsAmong kind kinds → ⊥
among_none kind kinds none among = subst (λ (ks : Kinds). IsAmong kind ks) none among

among_one : (kind one : ErrorKind) (kinds : Kinds) → kinds ≡ one ∷ [] → IsAmong kind kinds → kind ≡ one
among_one kind this kinds one among = elim (subst (λ (ks : Kinds). IsAmong kind ks) one among) [ inl e ↦ e | inr none ↦ absurd none ]

answer_to-kind : (words : List Text) (kind : ErrorKind) (fault : WordsFault)
    → (kind ≡ OutOfMemory) ⊎ IsAmong kind (faults_in words) → IsFaultBy kind fault → IsFaultOf words fault
answer_to-kind words kind (Help text) (inl memory) (inl help) = cc
answer_to-kind words kind (Help text) (inl memory) (inr version) = cc
answer_to-kind words kind (Help text) (inr among) (inl help) = inl (subst (λ (k : ErrorKind). IsAmong k (faults_in words)) help among)
answer_to-kind words kind (Help text) (inr among) (inr version) = inr (subst (λ (k : ErrorKind). IsAmong k (faults_in words)) version among)
answer_to-kind words kind (Refused text) (inl memory) (no_help, no_version, no_memory) = absurd (no_memory memory)
answer_to-kind words kind (Refused text) (inr among) (no_help, no_version, no_memory) = (
  λ job h. among_none kind (faults_in words) h.0 among,
  λ one. no_help (among_one kind DisplayHelp (faults_in words) one among),
  λ one. no_version (among_one kind DisplayVersion (faults_in words) one among),
)
answer_to-kind words kind Memory has by = tt

pub answer_to-fault : (app : App) (words : List Text) (kind : ErrorKind) (fault : WordsFault) → app ≡ command_line
    → (kind ≡ OutOfMemory) ⊎ IsAmong kind (fault_of app words) → IsFaultBy kind fault → IsFaultOf words fault
answer_to-fault app words kind fault same has by =
    let P : App → Type 0 = λ a. (kind ≡ OutOfMemory) ⊎ IsAmong kind (fault_of a words) in
    answer_to-kind words kind fault (subst P same has) by
