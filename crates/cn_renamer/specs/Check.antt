-- The text of a list of grants that is tight, and which fault is given if it is not written.
use Rattle.std.specs.Prelude.{ℕ, ◌≡◌, ◌≢◌, Bool, IfSome, List, Option, map}
use Rattle.cn_texts.specs.Grants.TightList.{IsFlaw, IsOutside, IsTightList}
use Rattle.cn_texts.specs.Reading.Bounds.{bounds_of}
use Rattle.cn_texts.specs.Reading.Records.{records_of}
use Rattle.cn_texts.specs.Grants.Printed.{printed_epochs, with_shares}
use Rattle.cn_texts.specs.declared.grants.record.Flaw.TheVariants as flaw
use Rattle.cn_texts.specs.declared.grants.record.Flaw.{Flaw}
use Rattle.cn_texts.specs.declared.grants.epochs.NamedEpoch.{NamedEpoch}
use Rattle.cn_texts.specs.Grants.TightText.{tight_text}
use Rattle.cn_texts.specs.Writing.Written.{Written, First, Nothing}
use Rattle.cn_renamer.specs.declared.checking.CheckFault.{CheckFault}
use Rattle.cn_renamer.specs.declared.checking.CheckFault.TheVariants as fault
use Rattle.cn_renamer.specs.declared.output_fault.OutputFault.{OutputFault}
use Rattle.cn_renamer.specs.declared.output_fault.OutputFault.TheVariants as output

-- this is the text of these epochs, each with its share of each exit
abbrev pub IsTightTextOf : ℕ → List NamedEpoch → List ℕ → Type 0
IsTightTextOf width epochs text = text ≡ tight_text (map (with_shares width) epochs)

-- the bytes that were read are a tight list of grants, within the limit of a large one or of one that is not, and this
-- is the text of its epochs, with the names of each counted by their remainders
pub record IsCheckOf (width : ℕ) (large : Bool) (bytes text : List ℕ) : Type 0 where
  pub tight : IsTightList (bounds_of large 0).records (records_of bytes)
  pub printed : text ≡ tight_text (printed_epochs width (records_of bytes))

-- this text is that of a check of the bytes that a reader has left, if they are known
abbrev pub IsCheckOfKnown : ℕ → Bool → Option (List ℕ) → List ℕ → Type 0
IsCheckOfKnown width large known text = IfSome known (λ bytes. IsCheckOf width large bytes text)

-- how much of its text a check has written that met a fault
abbrev pub until_check : CheckFault → Written
until_check (fault.Flaw why) = Nothing
until_check fault.Memory = Nothing
until_check (fault.Write written) = First written

-- a flaw is that of the bytes, and never want of memory; a tight list is refused only if a read failed
abbrev pub IsCheckFault : Bool → Option (List ℕ) → CheckFault → Type 0
IsCheckFault large known (fault.Flaw why) =
    (why ≢ flaw.Memory)
    × IfSome known (λ bytes. let most = (bounds_of large 0).records in
    IsFlaw most (records_of bytes) why × (IsTightList most (records_of bytes) → IsOutside why))
IsCheckFault large known fault.Memory = Unit {0}
IsCheckFault large known (fault.Write written) = Unit {0}

-- the fault of a check by its flaw; want of memory is a fault of its own
abbrev pub fault_of_flaw : Flaw → CheckFault
fault_of_flaw flaw.Memory = fault.Memory
fault_of_flaw (flaw.Read at) = fault.Flaw (flaw.Read at)
fault_of_flaw (flaw.Form at) = fault.Flaw (flaw.Form at)
fault_of_flaw (flaw.DuplicateClient at) = fault.Flaw (flaw.DuplicateClient at)
fault_of_flaw (flaw.DuplicateName at) = fault.Flaw (flaw.DuplicateName at)
fault_of_flaw (flaw.Gap epoch name) = fault.Flaw (flaw.Gap epoch name)

-- and of a text that was not written whole
abbrev pub fault_of_output : OutputFault → CheckFault
fault_of_output output.Memory = fault.Memory
fault_of_output (output.Write written) = fault.Write written

-- the status that a flaw ends the program with: input that is refused 1, a list that is not tight 4
abbrev pub status_of_flaw : Flaw → ℕ
status_of_flaw (flaw.Read at) = 1
status_of_flaw (flaw.Form at) = 1
status_of_flaw (flaw.DuplicateClient at) = 4
status_of_flaw (flaw.DuplicateName at) = 4
status_of_flaw (flaw.Gap epoch name) = 4
status_of_flaw flaw.Memory = 3

-- the status with which a fault of a check ends the program
abbrev pub status_of_check : CheckFault → ℕ
status_of_check (fault.Flaw why) = status_of_flaw why
status_of_check fault.Memory = 3
status_of_check (fault.Write written) = 3
