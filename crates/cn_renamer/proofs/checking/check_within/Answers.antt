use Rattle.cn_renamer.proofs.Common.{Bool, List, Option, IfSome, ℕ, ◌≡◌, ◌∙◌, ap, refl, err_from_is_err_and, known-map, written-map, bounds_of, records_of, until_output}
use Rattle.cn_texts.specs.Grants.Printed.{IsNamedList}
use Rattle.cn_texts.specs.Grants.TightText.{tight_text}
use Rattle.cn_texts.specs.declared.grants.epochs.NamedEpoch.{NamedEpoch}
use Rattle.cn_renamer.specs.Check.{IsCheckOfKnown, IsTightTextOf, fault_of_output, until_check}
use Rattle.cn_renamer.specs.declared.output_fault.OutputFault.{OutputFault}
use Rattle.cn_renamer.specs.declared.output_fault.OutputFault.TheVariants.{Memory, Write}
use Rattle.cn_renamer.proofs.checking.check_within.Goals as goal

-- the text of a tight list's epochs is that of its check
is-check : (width : ℕ) (large : Bool) (known : Option (List ℕ)) (epochs : List NamedEpoch)
    → IfSome known (λ bytes. IsNamedList (bounds_of large 0).records (records_of bytes) epochs)
    → (text : List ℕ) → IsTightTextOf width epochs text → IsCheckOfKnown width large known text
is-check width large known epochs named text is =
    known-map known _ _ named (λ bytes named. record { tight = named.tight; printed = is ∙ ap tight_text (named.printed width) })

same-part : (fault : OutputFault) → until_check (fault_of_output fault) ≡ until_output fault
same-part Memory = refl
same-part (Write written) = refl

pub returns-in_err-write_epochs-clause-written : goal.returns-in_err-write_epochs-clause-written
returns-in_err-write_epochs-clause-written g c =
    let fault = err_from_is_err_and c.from_residual-in_err-write_epochs.result c.from_residual-in_err-write_epochs.ensures.1 in
    let why = c.in_err-write_epochs.field-0.0 in
    let known = g.R.Read.remaining c.args.reader in
    rw (fault.1, fault.2, same-part why) (
    written-map g.W.Write.contents _ (IsCheckOfKnown c.args.width c.args.large known) (until_output why) c.args.writer.now
    c.write_epochs.new.writer
    (λ text is. is-check c.args.width c.args.large known c.in_ok-epochs.epochs.items c.in_ok-epochs.ensures.answer text
    (rw c.deref.ensures.value at is)) c.in_err-write_epochs.ensures)

pub returns-clause-written : goal.returns-clause-written
returns-clause-written g c =
    let (text, is, grows) = c.in_ok-write_epochs.ensures in (
      text,
      is-check c.args.width c.args.large (g.R.Read.remaining c.args.reader) c.in_ok-epochs.epochs.items c.in_ok-epochs.ensures.answer
          text (rw c.deref.ensures.value at is),
      grows,
    )
