use Rattle.cn_texts.proofs.Common.{◌<◌, ◌≤◌, ◌∙◌, sym, inl, inr, arith, arrival_cause, le-leb, le-ltb, lt-ltb, refl}
use Rattle.cn_texts.specs.Reading.Arrival.{last_epoch}
use Rattle.cn_texts.proofs.ReadingLemmas.GatheredEpochs.{reported-of, taken_of}
use Rattle.cn_texts.proofs.ReadingLemmas.ServableEpochs.{added-keeps}
use Rattle.std.proofs.lemmas.Result.{IfErr-weaker, on_ok_weaker}
use Rattle.cn_texts.proofs.reading.batch.gathering.Gathering.add.Goals as goal

pub returns-then-arrival-self-clause-err : goal.returns-then-arrival-self-clause-err
unfolding arrival_cause
returns-then-arrival-self-clause-err c = λ before gathered.
    let back : c.args.arrival.epoch < last_epoch before = omega (arith, gathered.last, c.if-arrival-self.true) in
    inl (rw (lt-ltb c.args.arrival.epoch (last_epoch before) back) refl)

pub returns-then-arrival-from-clause-err : goal.returns-then-arrival-from-clause-err
unfolding arrival_cause
returns-then-arrival-from-clause-err c = λ before gathered.
    let on : last_epoch before ≤ c.args.arrival.epoch = omega (arith, gathered.last, c.if-arrival-self.false) in
    let out : c.args.bounds.entries ≤ c.args.arrival.entry = omega (arith, c.from.ensures, c.if-arrival-from.true) in
    inl (rw (
      le-ltb c.args.arrival.epoch (last_epoch before) on,
      le-leb c.args.bounds.entries c.args.arrival.entry out,
    ) refl)

pub returns-clause-ok : goal.returns-clause-ok
returns-clause-ok c =
    let (here, keeps) = c.in_ok-turn_to.ensures.holds in
    on_ok_weaker c.add_to_latest.result (λ j before gathered.
    let (none, ended, number, clients, keys, next) = j in
    let held = keeps before gathered.holds in (
      sym (reported-of held c.args.bounds c.args.arrival here
          (omega (arith, gathered.last, c.if-arrival-self.false)) (omega (arith, c.from.ensures, c.if-arrival-from.false))
          (omega (arith, gathered.next, c.turn_to.ensures.next))) ∙ none,
      taken_of held c.args.arrival here ended number clients keys
          (omega (arith, next, gathered.next, c.turn_to.ensures.next)),
    )) c.add_to_latest.ensures.ok

pub returns-clause-err : goal.returns-clause-err
returns-clause-err c =
    let (here, keeps) = c.in_ok-turn_to.ensures.holds in
    IfErr-weaker c.add_to_latest.result _ _ (λ cause reported before gathered.
    elim reported [
      | inl e ↦
          inl (sym (reported-of (keeps before gathered.holds) c.args.bounds c.args.arrival here
          (omega (arith, gathered.last, c.if-arrival-self.false)) (omega (arith, c.from.ensures, c.if-arrival-from.false))
          (omega (arith, gathered.next, c.turn_to.ensures.next))) ∙ e)
      | inr e ↦ inr e
    ]) c.add_to_latest.ensures.err

pub returns-clause-keeps : goal.returns-clause-keeps
returns-clause-keeps c =
    on_ok_weaker c.add_to_latest.result (λ j.
    let (none, ended, number, clients, keys, next) = j in
    added-keeps (c.in_ok-turn_to.ensures.keeps c.args.bounds c.requires) _ none
    (omega (arith, c.from.ensures, c.if-arrival-from.false))
    ended number clients keys next) c.add_to_latest.ensures.ok

pub returns-clause-next : goal.returns-clause-next
returns-clause-next c = on_ok_weaker c.add_to_latest.result
    (λ j. omega (arith, j.5, c.turn_to.ensures.next)) c.add_to_latest.ensures.ok
