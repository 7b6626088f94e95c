use Rattle.cn_texts.proofs.Common.{◌≡◌, ◌∷◌, ◌++◌, [], refl, arith, length-append, inl, inr, rules, true, is_ok, cause_of_fault}
use Rattle.cn_texts.specs.declared.reading.schedule_fault.ScheduleCause.TheVariants.{Memory}
use Rattle.cn_texts.proofs.ReadingLemmas.FirstFaults.{stop-in, stop-other}
use Rattle.cn_texts.proofs.ReadingLemmas.RecordLists.{read-first}
use Rattle.cn_texts.proofs.ReadingLemmas.Told.{told-other}
use Rattle.cn_texts.proofs.ReadingLemmas.ScheduleRecords.{taken_all, taken-header, taken-next}
use Rattle.cn_texts.proofs.reading.schedule.take_commands.Goals as goal

pub loop-at-init : goal.loop-at-init
loop-at-init g c = record {
  counted = omega (arith, c.new-commands.ensures.len);
  few = omega (arith, c.new-commands.ensures.len);
  plain = c.in_default.ensures.plain;
  taken = λ text read.
      let (fields, now, e) = c.in_default.ensures.ok text read in
      (fields ∷ [], now, refl, rw c.new-commands.ensures.items (taken-header fields e));
}

pub returns-in-Err-take_command-clause-answer : goal.returns-in-Err-take_command-clause-answer
returns-in-Err-take_command-clause-answer g c = λ text read.
    let (before, now, size, t) = c.loop-at.invariant.taken text read in
    rw (← size) (elim (c.in-Err-take_command.ensures.refused text before now) [
      | inl (fields, next, e) ↦ stop-in t.clean fields (read-first next) (rw (← size) at e)
      | inr w ↦ stop-other t.clean (read-first now) w
    ])

pub returns-in_default-taken-clause-answer : goal.returns-in_default-taken-clause-answer
returns-in_default-taken-clause-answer g c = λ text read.
    let (before, now, size, t) = c.loop-at.invariant.taken text read in
    taken_all t (rw c.in_default-taken.is at (c.in-Ok.ensures.found text before now))

pub returns-then-is_err-clause-answer : goal.returns-then-is_err-clause-answer
returns-then-is_err-clause-answer g c = λ text read.
    let (before, now, size, t) = c.loop-at.invariant.taken text read in
    rw (← size) (stop-other t.clean (read-first now) (inr refl))

pub returns-then-is_err-clause-told : goal.returns-then-is_err-clause-told
returns-then-is_err-clause-told g c = told-other cause_of_fault Memory c.in-Ok.ensures.plain.going (λ is. cc is)

pub loop-at-preserved : goal.loop-at-preserved
loop-at-preserved g c =
    let good : is_ok c.push.result ≡ true = search rules in
    let items = rw good at c.push.ensures.items in
    let len = rw good at c.push.ensures.len in
    let below = rw c.in-Some.is at c.in-Ok.ensures.few in
    record {
      counted = omega (arith, len, c.loop-at.invariant.counted);
      few = omega (arith, len, c.loop-at.invariant.counted, below);
      plain = c.in-Ok.ensures.plain;
      taken = λ text read.
          let (before, now, size, t) = c.loop-at.invariant.taken text read in
          let (fields, next, none, is) = rw c.in-Some.is at (c.in-Ok.ensures.found text before now) in (
            before ++ fields ∷ [],
            next,
            omega (arith, size, length-append before (fields ∷ [])),
            rw items (taken-next before c.loop-at.commands.items fields c.in-Some.command c.loop-at.at size t none is),
          );
    }
