use Rattle.cn_texts.proofs.Common.{[], ap, sym, ◌∙◌, refl, fields_of, cause_of_heading, header_cause, record_cause}
use Rattle.cn_texts.proofs.ReadingLemmas.FirstFaults.{no_header}
use Rattle.cn_texts.proofs.ReadingLemmas.RecordLists.{read-first}
use Rattle.cn_texts.proofs.reading.batch.arrivals.read_header.Goals as goal

pub returns-then-not-branch-clause-err : goal.returns-then-not-branch-clause-err
returns-then-not-branch-clause-err g c = λ bounds text read.
    no_header header_cause (record_cause bounds) (rw
    (rw c.if-not-branch.true at (c.in_ok-next_record.ensures.reads text [] read)) refl)

pub returns-in-Some-clause-ok : goal.returns-in-Some-clause-ok
returns-in-Some-clause-ok g c = λ text read. (
  fields_of c.next_record.new.fields,
  rw c.if-not-branch.false at (c.in_ok-next_record.ensures.reads text [] read),
  sym c.heading_of.ensures ∙ c.in-Some.is,
)

pub returns-in-None-clause-err : goal.returns-in-None-clause-err
returns-in-None-clause-err g c = λ bounds text read.
    let (more, is) = read-first (rw c.if-not-branch.false at (c.in_ok-next_record.ensures.reads text [] read)) in
    no_header header_cause (record_cause bounds) (rw is (ap cause_of_heading (sym c.heading_of.ensures ∙ c.in-None.is)))
