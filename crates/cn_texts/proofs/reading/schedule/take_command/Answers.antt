use Rattle.cn_texts.proofs.Common.{◌≡◌, true, refl, inl, nat_lt, lt-ltb, MOST_RECORDS, err_from_is_err_and, fields_of, cause_of_fault}
use Rattle.cn_texts.proofs.ReadingLemmas.Told.{told-other}
use Rattle.cn_texts.proofs.reading.schedule.take_command.Goals as goal

pub returns-then-not-branch-clause-found : goal.returns-then-not-branch-clause-found
returns-then-not-branch-clause-found g c =
    λ text before read. rw c.if-not-branch.true at (c.in_ok-next_record.ensures.reads text before read)

pub returns-in_err-command-clause-refused : goal.returns-in_err-command-clause-refused
returns-in_err-command-clause-refused g c =
    let reported = err_from_is_err_and c.from_residual-in_err-command.result c.from_residual-in_err-command.ensures.1 in
    rw (reported.1, reported.2) (λ text before read.
    inl (
      fields_of c.next_record.new.fields,
      rw c.if-not-branch.false at (c.in_ok-next_record.ensures.reads text before read),
      rw (← c.command_of.ensures.value, c.in_err-command.was) refl,
    ))

pub returns-then-at-gt-MOST_RECORDS-clause-refused : goal.returns-then-at-gt-MOST_RECORDS-clause-refused
returns-then-at-gt-MOST_RECORDS-clause-refused g c = λ text before read.
    let full : nat_lt MOST_RECORDS c.args.at ≡ true = lt-ltb MOST_RECORDS c.args.at c.if-at-gt-MOST_RECORDS.true in
    inl (
      fields_of c.next_record.new.fields,
      rw c.if-not-branch.false at (c.in_ok-next_record.ensures.reads text before read),
      rw (← c.in_ok-command.ensures.value, full) refl,
    )

pub returns-in_err-command-clause-told : goal.returns-in_err-command-clause-told
returns-in_err-command-clause-told g c =
    let reported = err_from_is_err_and c.from_residual-in_err-command.result c.from_residual-in_err-command.ensures.1 in
    rw (reported.1, reported.2) (told-other cause_of_fault _ c.in_ok-next_record.ensures.plain.going c.in_err-command.ensures.no_read)
