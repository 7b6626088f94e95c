use Rattle.cn_texts.proofs.Common.{[], refl, fields_of}
use Rattle.cn_texts.specs.Reading.Schedule.{header_cause, record_cause}
use Rattle.cn_texts.proofs.ReadingLemmas.FirstFaults.{no_header}
use Rattle.cn_texts.proofs.ReadingLemmas.RecordLists.{read-first}
use Rattle.cn_texts.proofs.reading.schedule.take_header.Goals as goal
use Rattle.cn_texts.proofs.reading.schedule.take_header.Goals.{else-branch-via-then-branch+else-is_header, else-branch-via-else-branch}

pub returns-then-is_header-clause-ok : goal.returns-then-is_header-clause-ok
returns-then-is_header-clause-ok g c = λ text read. (
  fields_of c.next_record.new.fields,
  rw c.if-branch.true at (c.in_ok-next_record.ensures.reads text [] read),
  rw (← c.if-is_header.ensures) refl,
)

pub returns-else-branch-clause-err : goal.returns-else-branch-clause-err
returns-else-branch-clause-err g c = λ text read.
    elim c.else-branch.branch [
      | else-branch-via-then-branch+else-is_header w ↦
          let (more, is) = read-first (rw w.if-branch.true at (c.in_ok-next_record.ensures.reads text [] read)) in
          no_header header_cause record_cause (rw is (rw (← w.if-is_header.ensures) refl))
      | else-branch-via-else-branch w ↦
          no_header header_cause record_cause (rw (rw w.if-branch.false at
          (c.in_ok-next_record.ensures.reads text [] read)) refl)
    ]
