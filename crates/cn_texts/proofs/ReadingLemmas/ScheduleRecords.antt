-- The records of a schedule that were taken so far, and that they spell one list of commands.
use Rattle.cn_texts.proofs.Common.{◌≡◌, ℕ, List, ◌∷◌, [], ◌++◌, None, Ok, length, drop, map, refl, arith, Record, Command, command_in, IsSchedule, command_cause}
use Rattle.cn_texts.specs.Reading.Schedule.{header_cause, record_cause}
use Rattle.cn_texts.proofs.ReadingLemmas.FirstFaults.{AreClean, clean-all, clean-header, clean-more}
use Rattle.cn_texts.proofs.ReadingLemmas.RecordLists.{spelled-more}

-- the records so far: a header, and a record for each command
pub record AreRead (records : List Record) (commands : List Command) : Type 0 where
  pub clean : AreClean header_cause record_cause records
  pub spells : map command_in (drop 1 records) ≡ map Ok commands

pub taken-header : (fields : Record) → header_cause fields ≡ None → AreRead (fields ∷ []) []
taken-header fields e = record { clean = clean-header fields e; spells = refl }

pub taken-next : (records : List Record) (commands : List Command) (fields : Record) (command : Command) (at : ℕ)
    → length records ≡ at → AreRead records commands → command_cause at (command_in fields) ≡ None
    → command_in fields ≡ Ok command → AreRead (records ++ fields ∷ []) (commands ++ command ∷ [])
taken-next [] commands fields command at size t e is = absurd (omega (arith, t.clean.some))
taken-next (r ∷ records) commands fields command at size t e is = record {
  clean = clean-more fields t.clean (rw size e);
  spells = spelled-more command_in Ok records commands t.spells fields command is;
}

pub taken_all : {all records : List Record} {commands : List Command} → AreRead records commands → all ≡ records
    → IsSchedule all commands
taken_all t e = rw e (record { clean = clean-all t.clean; spells = t.spells })
