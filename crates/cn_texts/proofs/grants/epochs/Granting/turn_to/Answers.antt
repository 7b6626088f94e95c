use Rattle.cn_texts.proofs.Common.{◌<◌, ◌++◌, append-nil, arith, inr, subst, sym, AreSeen}
use Rattle.cn_texts.proofs.GrantLemmas.CheckedGrants.{seen-latest, turned}
use Rattle.cn_texts.proofs.grants.epochs.Granting.turn_to.Goals as goal

pub returns-clause-holds : goal.returns-clause-holds
returns-clause-holds c = λ earlier latest held tells.
    let same = c.in_ok-end_latest.ensures.same in
    let h : c.args.self.now.latest < c.args.epoch = omega (arith, c.requires.later, c.if-self-epoch.false) in
    inr (
      c.in_ok-end_latest.ensures.fresh earlier latest held,
      turned held h (omega (arith, same.1, same.2, c.len.ensures)) c.clear.ensures.items c.clear-2.ensures.items
          (c.in_ok-end_latest.ensures.gap earlier latest held),
      λ none.
          let (before, ended) = c.in_ok-end_latest.ensures.ended none in
          subst (AreSeen _ c.args.epoch 0) (sym (append-nil (earlier ++ latest)))
          (seen-latest _ c.args.epoch held tells before h ended),
    )
