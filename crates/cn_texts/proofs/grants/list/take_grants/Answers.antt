use Rattle.cn_texts.proofs.Common.{◌≡◌, ◌+◌, ◌∷◌, ◌++◌, [], List, None, ap, length, arith, length-append, append-nil, append_assoc, inl, inr, subst, sym, ◌∙◌, HasRead, Record, records_of, IfOk-weaker, err_from_is_err_and, form_cause, Granted}
use Rattle.cn_texts.proofs.GrantLemmas.CheckedGrants.{as-many, form-none}
use Rattle.cn_texts.proofs.GrantLemmas.GrantRecords.{at-grants, first-flaw, follow-more, follow-none, form-first, taken-end, taken-fresh, taken-header, twice-flaw}
use Rattle.cn_texts.proofs.ReadingLemmas.RecordLists.{read-first}
use Rattle.std.proofs.lemmas.Result.{IfErr-weaker}
use Rattle.cn_texts.proofs.ReadingLemmas.Told.{end-told, flaw-told, repeat-told}
use Rattle.cn_texts.proofs.ReadingLemmas.FirstFaults.{stop-in, stop-other}
use Rattle.cn_texts.proofs.grants.list.take_grants.Goals as goal

pub loop-at-init : goal.loop-at-init
loop-at-init g c = record {
  few = omega arith;
  count = omega (arith, c.new-granting.ensures.count);
  plain = c.in_default.ensures.plain;
  taken = λ text read.
      let (fields, now, e) = c.in_default.ensures.ok text read in
      (fields ∷ [], [], [], [], now, taken-header fields e, follow-none c.args.most [], c.new-granting.ensures.checked);
}

pub returns-in_err-add-in-Ok-Some-clause-answer : goal.returns-in_err-add-in-Ok-Some-clause-answer
returns-in_err-add-in-Ok-Some-clause-answer g c = λ text read.
    let (done, records, earlier, latest, now, t, follow, checked) = c.loop-at.invariant.taken text read in
    let (more, is) = read-first now in
    let reported = err_from_is_err_and c.from_residual.result c.from_residual.ensures.1 in
    rw (reported.1, reported.2) (elim (c.in_err-add-in-Ok-Some.ensures.twice earlier latest checked.holds) [
      | inl twice ↦ twice-flaw t follow (records_of text) more _ is twice
      | inr none ↦ rw none tt
    ])

pub returns-in_err-add-in-Ok-Some-clause-told : goal.returns-in_err-add-in-Ok-Some-clause-told
returns-in_err-add-in-Ok-Some-clause-told g c =
    let reported = err_from_is_err_and c.from_residual.result c.from_residual.ensures.1 in
    rw (reported.1, reported.2) (end-told g.R.ReadTelling.failed c.next_grant.new.records _ c.in-Ok-Some.ensures.plain.going
    c.in_err-add-in-Ok-Some.ensures.not_read)

pub returns-in-Ok-None-clause-answer : goal.returns-in-Ok-None-clause-answer
returns-in-Ok-None-clause-answer g c = λ text read.
    let (done, records, earlier, latest, now, t, follow, checked) = c.loop-at.invariant.taken text read in
    taken-end (λ epochs. epochs.items) c.args.most (records_of text) done earlier records latest c.finish.result t follow
    (rw c.in-Ok-None.field-0-is at (c.in-Ok-None.ensures.found text (done ++ records) now))
    (c.finish.ensures.answer earlier latest checked.holds)
    (IfOk-weaker c.finish.result _ _
    (λ epochs found. found earlier latest checked.holds checked.tells) c.finish.ensures.found)

pub returns-in-Ok-None-clause-told : goal.returns-in-Ok-None-clause-told
returns-in-Ok-None-clause-told g c =
    IfErr-weaker c.finish.result _ _
    (λ flaw own. end-told g.R.ReadTelling.failed c.next_grant.new.records flaw c.in-Ok-None.ensures.plain.going own)
    c.finish.ensures.not_read

pub returns-in_err-settle-in-Err-next_grant-clause-answer : goal.returns-in_err-settle-in-Err-next_grant-clause-answer
returns-in_err-settle-in-Err-next_grant-clause-answer g c = λ text read.
    let (done, records, earlier, latest, now, t, follow, checked) = c.loop-at.invariant.taken text read in
    let (more, is) = read-first now in
    let residual = c.from_residual-in_err-settle-in-Err-next_grant in
    let reported = err_from_is_err_and residual.result residual.ensures.1 in
    rw (reported.1, reported.2) (twice-flaw t follow (records_of text) more _ is
    (c.in_err-settle-in-Err-next_grant.ensures.twice earlier latest checked.holds))

pub returns-in_err-settle-in-Err-next_grant-clause-told : goal.returns-in_err-settle-in-Err-next_grant-clause-told
returns-in_err-settle-in-Err-next_grant-clause-told g c =
    let residual = c.from_residual-in_err-settle-in-Err-next_grant in
    let reported = err_from_is_err_and residual.result residual.ensures.1 in
    rw (reported.1, reported.2) (repeat-told g.R.ReadTelling.failed c.next_grant.new.records _
    c.in_err-settle-in-Err-next_grant.ensures.repeat)

pub returns-in-Err-next_grant-clause-answer : goal.returns-in-Err-next_grant-clause-answer
returns-in-Err-next_grant-clause-answer g c = λ text read.
    let (done, records, earlier, latest, now, start, follow, checked) = c.loop-at.invariant.taken text read in
    let fresh = c.in_ok-settle-in-Err-next_grant.ensures.fresh earlier latest checked.holds in
    let t = taken-fresh start follow fresh in
    let many = as-many (λ (x : Granted). x.client) latest c.loop-at.granting.clients.items checked.holds.clients in
    let grants : length (earlier ++ latest) + 1 ≡ c.loop-at.at =
    omega (arith, length-append earlier latest, many, checked.holds.before, c.loop-at.invariant.count) in
    let size : length (done ++ records) ≡ c.loop-at.at = sym t.counted ∙ grants in
    let last = checked.last ∙ sym c.latest.ensures in
    rw c.flaw_at-in-Err-next_grant.ensures (first-flaw c.args.most (records_of text) c.loop-at.at c.in-Err-next_grant.cause
    (rw (← size) (elim (c.in-Err-next_grant.ensures.refused text (done ++ records)
    (earlier ++ latest) now last grants) [
      | inl (fields, next, e) ↦
          stop-in t.clean fields (read-first next) (at-grants fields c.in-Err-next_grant.cause t
          (form-first c.args.most (earlier ++ latest) _ c.in-Err-next_grant.cause e))
      | inr w ↦ stop-other t.clean (read-first now) w
    ])))

pub returns-in-Err-next_grant-clause-told : goal.returns-in-Err-next_grant-clause-told
returns-in-Err-next_grant-clause-told g c =
    rw c.flaw_at-in-Err-next_grant.ensures (flaw-told c.loop-at.at c.in-Err-next_grant.cause c.in-Err-next_grant.ensures.told)

pub returns-in-Err-clause-told : goal.returns-in-Err-clause-told
returns-in-Err-clause-told g c = rw c.flaw_at.ensures (flaw-told 0 c.in-Err.cause c.in-Err.ensures.told)

pub loop-at-preserved : goal.loop-at-preserved
loop-at-preserved g c = record {
  few = omega (arith, (rw c.in-Ok-Some.field-0-is at c.in-Ok-Some.ensures.form).1);
  count = omega (arith, c.in_ok-add-in-Ok-Some.ensures.count, c.loop-at.invariant.count);
  plain = c.in-Ok-Some.ensures.plain;
  taken = λ text read.
      let (done, records, earlier, latest, now, t, follow, checked) = c.loop-at.invariant.taken text read in
      let grant : Granted = c.in-Ok-Some.grant in
      let (fields, next, is) = rw c.in-Ok-Some.field-0-is at (c.in-Ok-Some.ensures.found text (done ++ records) now) in
      let (later, inside) = rw c.in-Ok-Some.field-0-is at c.in-Ok-Some.ensures.form in
      let many = as-many (λ (x : Granted). x.client) latest c.loop-at.granting.clients.items checked.holds.clients in
      let form : form_cause c.args.most (earlier ++ latest) grant ≡ None =
      form-none c.args.most (earlier ++ latest) grant (omega (arith, checked.last, c.latest.ensures, later))
      (omega (
        arith,
        length-append earlier latest,
        many,
        checked.holds.before,
        c.loop-at.invariant.count,
        inside,
      )) in
      elim (c.in_ok-add-in-Ok-Some.ensures.ok earlier latest checked) [
        | inl more ↦ (
          done,
          records ++ fields ∷ [],
          earlier,
          latest ++ grant ∷ [],
          subst (λ (l : List Record). HasRead g.R.Read.remaining c.next_grant.new.records text l) (append_assoc done records (fields ∷ []))
              next,
          t,
          follow-more earlier records latest fields grant follow is form,
          more,
        )
        | inr (fresh, more) ↦ (
          done ++ records,
          fields ∷ [],
          earlier ++ latest,
          grant ∷ [],
          next,
          taken-fresh t follow fresh,
          follow-more (earlier ++ latest) [] [] fields grant (follow-none c.args.most (earlier ++ latest)) is
              (ap (λ (l : List Granted). form_cause c.args.most l grant) (append-nil (earlier ++ latest)) ∙ form),
          more,
        )
      ];
}
