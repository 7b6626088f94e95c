use Rattle.cn_texts.proofs.Common.{refl, inl, err_from_is_err_and, fields_of, batch_cause_of_fault}
use Rattle.cn_texts.proofs.ReadingLemmas.Told.{told-other}
use Rattle.cn_texts.proofs.reading.batch.arrivals.ArrivalReader.next_arrival.Goals as goal

pub returns-then-not-branch-clause-next : goal.returns-then-not-branch-clause-next
returns-then-not-branch-clause-next g c =
    λ text before read. rw c.if-not-branch.true at (rw c.deref_mut.ensures.value at c.in_ok-next_record.ensures.reads text before read)

pub returns-in_err-arrival_of-clause-refused : goal.returns-in_err-arrival_of-clause-refused
returns-in_err-arrival_of-clause-refused g c =
    let reported = err_from_is_err_and c.from_residual-in_err-arrival_of.result c.from_residual-in_err-arrival_of.ensures.1 in
    rw (reported.1, reported.2) (λ text before read.
    inl (
      fields_of c.next_record.new.fields,
      rw c.if-not-branch.false at (rw c.deref_mut.ensures.value at c.in_ok-next_record.ensures.reads text before read),
      rw (← c.arrival_of.ensures.value, c.in_err-arrival_of.was) refl,
    ))

pub returns-in_err-arrival_of-clause-told : goal.returns-in_err-arrival_of-clause-told
returns-in_err-arrival_of-clause-told g c =
    let reported = err_from_is_err_and c.from_residual-in_err-arrival_of.result c.from_residual-in_err-arrival_of.ensures.1 in
    rw (reported.1, reported.2) (told-other batch_cause_of_fault _ c.in_ok-next_record.ensures.plain.going
    c.in_err-arrival_of.ensures.no_read)
