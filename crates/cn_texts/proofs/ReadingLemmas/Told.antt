-- Causes that say why a reader stopped.
use Rattle.cn_texts.proofs.Common.{arith, ◌≡◌, ◌∙◌, ℕ, ap, Bool, false, inl, inr, subst, sym, true, has_failed, reader_source, Reader, IsFlawTold, IsRepeatFlaw, flaw_of, grant_cause_of_fault, Flaw, GrantCause, batch_cause_of_fault, HasStopped, IsTold, fault_by, BatchCause}
use Rattle.cn_texts.specs.declared.grants.record.Flaw.TheVariants as flaws
use Rattle.cn_texts.specs.declared.grants.record.GrantCause.TheVariants as grants
use Rattle.cn_texts.specs.declared.reading.batch_fault.BatchCause.TheVariants as batch
use Rattle.cn_texts.specs.declared.reading.records.RecordFault.{RecordFault}
use Rattle.cn_texts.specs.declared.reading.records.RecordFault.TheVariants.{Read}

-- the cause of the fault that a reader stopped with
pub told : {R Cause : Type 0} {failed : R → Bool} {reader : Reader R} (cause_of : RecordFault → Cause) (fault : RecordFault)
    (cause : Cause) → HasStopped failed reader fault → cause ≡ cause_of fault → IsTold failed cause_of reader cause
told cause_of fault cause stop is = record { stopped = λ _. is ∙ ap cause_of stop.why; read = λ _. stop.stopped }

-- another cause, of a reader that goes on
pub told-other : {R Cause : Type 0} {failed : R → Bool} {reader : Reader R} (cause_of : RecordFault → Cause) (cause : Cause)
    → has_failed reader ≡ false → (cause ≡ cause_of Read → ⊥) → IsTold failed cause_of reader cause
told-other cause_of cause going other = record {
  stopped = λ stops. absurd (let none : true ≡ false = sym stops ∙ going in cc);
  read = λ is. absurd (other is);
}

fault-read : (failed : Bool) → batch.Read ≡ batch_cause_of_fault (fault_by failed) → Read ≡ fault_by failed
fault-read failed e = grind (arith, e)

-- a failed read that is told of a batch
pub read-stops : {R : Type 0} {failed : R → Bool} {reader : Reader R} (cause : BatchCause)
    → IsTold failed batch_cause_of_fault reader cause → cause ≡ batch.Read → HasStopped failed reader Read
read-stops {failed = failed} {reader = reader} cause is e =
    let stopped = is.read e in
    record { stopped = stopped; why = fault-read (failed (reader_source reader)) (sym e ∙ is.stopped stopped) }

-- ---- the flaw of a grant list

flaw-read : (at n : ℕ) (cause : GrantCause) → flaw_of at cause ≡ flaws.Read n → cause ≡ grants.Read
flaw-read at n cause e = grind (arith, e)

pub flaw-told : {R : Type 0} {failed : R → Bool} {reader : Reader R} (at : ℕ) (cause : GrantCause)
    → IsTold failed grant_cause_of_fault reader cause → IsFlawTold failed reader (flaw_of at cause)
flaw-told at cause is = record {
  at = at;
  stopped = λ stops. inl (ap (flaw_of at) (is.stopped stops));
  read = λ n e. is.read (flaw-read at n cause e);
}

-- a record before has a client or a name twice
pub repeat-told : {R : Type 0} (failed : R → Bool) (reader : Reader R) (flaw : Flaw) → IsRepeatFlaw flaw
    → IsFlawTold failed reader flaw
repeat-told failed reader flaw is = record { at = 0; stopped = λ stops. inr is; read = λ n e. absurd (subst IsRepeatFlaw e is) }

pub end-told : {R : Type 0} (failed : R → Bool) (reader : Reader R) (flaw : Flaw) → has_failed reader ≡ false
    → ((n : ℕ) → flaw ≡ flaws.Read n → ⊥) → IsFlawTold failed reader flaw
end-told failed reader flaw going other = record {
  at = 0;
  stopped = λ stops. absurd (let none : true ≡ false = sym stops ∙ going in cc);
  read = λ n is. absurd (other n is);
}
