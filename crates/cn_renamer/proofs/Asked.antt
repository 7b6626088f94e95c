-- What words ask for, and what a run has written by what was asked of it.
use Rattle.cn_renamer.proofs.Common.{◌≡◌, arith, ℕ, inl, inr, List, Option, is_some, known-map, written-map, HasWritten, Written, IsRunInOrder, IsRunInOrderOfKnown, IsRunOf, IsRunOfKnown, IsTextOf, walkers, walkers_asked, IsBuiltFor}
use Rattle.std.proofs.lemmas.Bool.{cases_eq}
use Rattle.cn_cli.specs.Options.{Settings}
use Rattle.clap.specs.Words.{Row, Text}
use Rattle.cn_cli.specs.Words.{Asks, IsJobOf}
use Rattle.cn_cli.specs.declared.words.Job.{Job}
use Rattle.cn_cli.specs.declared.words.Job.TheVariants as job

-- a gate makes all workers walk each epoch, and without one one does
pub walkers-as-asked : {G : Type 0} (gate : Option G) (options : Settings) → is_some gate ≡ options.together
    → walkers gate options.workers ≡ walkers_asked options
walkers-as-asked gate options same = grind arith

-- by one worker with one client in hand it is the text of a run in order, and else that of a run
pub run-as-asked : {W : Type 0} (contents : W → Option (List ℕ)) (old new : W) (options : Settings) (known : Option (List ℕ))
    (written : Written)
    → HasWritten contents (IsRunOfKnown options.net options.form options.carry options.large known) written old new
    → (walkers_asked options ≡ 1 → options.hand ≡ 1
    → HasWritten contents (IsRunInOrderOfKnown options.net options.form options.carry options.large known) written old new)
    → HasWritten contents (IsTextOf (job.Run options) known) written old new
run-as-asked contents old new options known written ran ordered =
    let Run : List ℕ → Type 0 = IsRunOfKnown options.net options.form options.carry options.large known in
    let Ordered : List ℕ → Type 0 = IsRunInOrderOfKnown options.net options.form options.carry options.large known in
    let Asked : List ℕ → Type 0 = IsTextOf (job.Run options) known in
    elim (cases_eq (walkers_asked options) 1) [
      | inr several ↦ written-map contents Run Asked written old new (λ text is. (is, λ one _. absurd (several one))) ran
      | inl one ↦
          elim (cases_eq options.hand 1) [
            | inr other ↦ written-map contents Run Asked written old new (λ text is. (is, λ _ hand. absurd (other hand))) ran
            | inl hand ↦
                written-map contents Ordered Asked written old new (λ text is.
                let run = known-map known (λ bytes. IsRunInOrder options.net options.form options.carry options.large bytes text)
                (λ bytes. IsRunOf options.net options.form options.carry options.large bytes text) is (λ bytes it. it.run) in
                (run, λ _ _. is)) (ordered one hand)
          ]
    ]

-- a job that words ask for has a width that networks are built of
built-for : (asked : Option (Text × List Row)) (job : Job) → Asks asked job → IsBuiltFor job
built-for asked job asks = grind arith

pub is-built : (words : List Text) (job : Job) → IsJobOf words job → IsBuiltFor job
is-built words job asks = built-for _ job asks.1
