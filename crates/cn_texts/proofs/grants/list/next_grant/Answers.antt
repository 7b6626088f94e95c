use Rattle.cn_texts.proofs.Common.{refl, arith, inl, inr, fields_of}
use Rattle.cn_texts.proofs.GrantLemmas.CheckedGrants.{form-back}
use Rattle.cn_texts.proofs.grants.list.next_grant.Goals as goal
use Rattle.cn_texts.proofs.grants.list.next_grant.Goals.{then-grant-latest-via-then-grant-latest, then-grant-latest-via-else-grant-latest+then-at-most}

pub returns-then-not-branch-clause-found : goal.returns-then-not-branch-clause-found
returns-then-not-branch-clause-found g c =
    λ text before read. rw c.if-not-branch.true at (c.in_ok-next_record.ensures.reads text before read)

pub returns-in_default-clause-refused : goal.returns-in_default-clause-refused
returns-in_default-clause-refused g c = λ text before grants read last size.
    inl (
      fields_of c.next_record.new.fields,
      rw c.if-not-branch.false at (c.in_ok-next_record.ensures.reads text before read),
      rw (← c.granted_of.ensures, c.in_default.is) refl,
    )

pub returns-then-grant-latest-clause-refused : goal.returns-then-grant-latest-clause-refused
returns-then-grant-latest-clause-refused g c = λ text before grants read last size.
    inl (
      fields_of c.next_record.new.fields,
      rw c.if-not-branch.false at (c.in_ok-next_record.ensures.reads text before read),
      rw (← c.in-Some.ensures) (elim c.then-grant-latest.branch [
        | then-grant-latest-via-then-grant-latest w ↦
            form-back c.args.most grants c.in-Some.grant (inl (omega (arith, last, w.if-grant-latest.true)))
        | then-grant-latest-via-else-grant-latest+then-at-most w ↦
            form-back c.args.most grants c.in-Some.grant (inr (omega (arith, size, w.if-at-most.true)))
      ]),
    )
