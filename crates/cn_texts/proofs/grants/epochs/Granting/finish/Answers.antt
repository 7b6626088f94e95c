use Rattle.cn_texts.proofs.Common.{◌+◌, ◌++◌, arith, inl, inr, err_from_is_err_and}
use Rattle.cn_texts.proofs.GrantLemmas.CheckedGrants.{no_gap, seen-end, seen-latest}
use Rattle.cn_texts.proofs.grants.epochs.Granting.finish.Goals as goal

pub returns-in_err-end_latest-clause-answer : goal.returns-in_err-end_latest-clause-answer
returns-in_err-end_latest-clause-answer c = λ earlier latest held.
    let reported = err_from_is_err_and c.from_residual.result c.from_residual.ensures.1 in
    rw (reported.1, reported.2) (elim (c.in_err-end_latest.ensures.twice earlier latest held) [ inl w ↦ inl w | inr w ↦ inr (inl w) ])

pub returns-in-None-clause-answer : goal.returns-in-None-clause-answer
returns-in-None-clause-answer c = λ earlier latest held. (
  c.in_ok-end_latest.ensures.fresh earlier latest held,
  no_gap held (rw c.in-None.is at (c.in_ok-end_latest.ensures.gap earlier latest held)),
)

pub returns-in-None-clause-found : goal.returns-in-None-clause-found
returns-in-None-clause-found c = λ earlier latest held tells.
    let (before, ended) = c.in_ok-end_latest.ensures.ended c.in-None.is in
    seen-end _ (c.args.self.latest + 1) (earlier ++ latest)
    (seen-latest _ (c.args.self.latest + 1) held tells before (omega arith) ended)
