use Rattle.cn_core.proofs.Common.{rules, arith, ◌≡◌, ◌++◌, ◌∷◌, [], drop, append-nil, append_assoc, refl, Enter}
use Rattle.std.proofs.lemmas.Grind.{common_steps}
use Rattle.cn_core.proofs.HistoryLemmas.{runs-at, runs_to-at}
use Rattle.cn_core.proofs.core_state.Core.run.Goals as goal

pub loop-event-preserved : goal.loop-event-preserved
loop-event-preserved c = record {
  so_far = search rules;
  room = search rules;
  network = search rules;
  events = λ rest new runs.
      let joined : c.push_reserved.new.self.items ++ rest ≡ c.loop-event.replies.items ++ (c.answer-reply.result ∷ rest) =
      rw (c.push_reserved.ensures.items, append_assoc) refl in
      rw joined (c.loop-event.invariant.events (c.answer-reply.result ∷ rest) new
      (runs_to-at c.loop-event.self c.answer-reply.new.self new c.args.events.now c.loop-event.event-index (Enter 0 0) c.answer-reply.result
      rest c.loop-event-test.true c.answer-reply.ensures.event c.answer-reply.ensures.ledger runs));
  rest = λ rest new runs.
      let joined : c.push_reserved.new.self.items ++ rest ≡ c.loop-event.replies.items ++ (c.answer-reply.result ∷ rest) =
      rw (c.push_reserved.ensures.items, append_assoc) refl in
      rw joined (c.loop-event.invariant.rest (c.answer-reply.result ∷ rest) new
      (runs-at c.loop-event.self c.answer-reply.new.self new c.args.events.now c.loop-event.event-index (Enter 0 0) c.answer-reply.result
      rest c.loop-event-test.true c.answer-reply.ensures.history c.answer-reply.ensures.network runs));
}

pub returns-clause-events : goal.returns-clause-events
returns-clause-events c =
    let done : drop c.loop-event.event-index c.args.events.now ≡ [] = grind (arith, common_steps) in
    let whole = c.loop-event.invariant.events [] c.loop-event.self (rw done refl) in
    rw append-nil at whole

pub returns-clause-history : goal.returns-clause-history
returns-clause-history c =
    let done : drop c.loop-event.event-index c.args.events.now ≡ [] = grind (arith, common_steps) in
    let whole = c.loop-event.invariant.rest [] c.loop-event.self (rw done (λ h earlier a. (tt, a))) in
    rw append-nil at whole
