use Rattle.cn_texts.proofs.Common.{◌≡◌, arith, inl, inr, length, refl}
use Rattle.cn_texts.proofs.GrantLemmas.CheckedGrants.{added}
use Rattle.cn_texts.proofs.grants.epochs.Granting.add.Goals as goal

pub returns-clause-ok : goal.returns-clause-ok
returns-clause-ok c = λ earlier latest checked.
    let place : c.len-place.result ≡ length c.turn_to.new.self.clients.items =
    omega (arith, c.len-place.ensures, c.turn_to.new.self.clients.ok) in
    let clients = rw place at c.in_ok-push.ensures in
    let names = rw place at c.in_ok-push-2.ensures in
    elim (c.in_ok-turn_to.ensures.holds earlier latest checked.holds checked.tells) [
      | inl w ↦ inl (added c.args.grant w.0 c.in_ok-turn_to.ensures.here refl refl refl refl clients names w.1)
      | inr w ↦ inr (w.0, added c.args.grant w.1 c.in_ok-turn_to.ensures.here refl refl refl refl clients names w.2)
    ]
