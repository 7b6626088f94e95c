use Rattle.cn_epoch.proofs.Common.{rules, arith, ◌≡◌, ◌∷◌, [], drop, append-nil, append_assoc, refl, ◌∙◌, common_steps, Enter}
use Rattle.cn_epoch.proofs.Answering.{runs_to-at, runs-at, runs-none}
use Rattle.cn_epoch.proofs.epochs.Epochs.run.Goals as goal

pub loop-command-init : goal.loop-command-init
loop-command-init c = record {
  so_far = search rules;
  room = search rules;
  network = refl;
  number = omega arith;
  carries = refl;
  came = omega arith;
  events = λ rest new runs. rw c.in_ok-answers.ensures.items runs;
  rest = λ rest new runs. rw c.in_ok-answers.ensures.items runs;
}

pub loop-command-preserved : goal.loop-command-preserved
loop-command-preserved c = record {
  so_far = search rules;
  room = search rules;
  network = search rules;
  number = let before = c.loop-command.invariant.number in let more = c.answer-answer.ensures.number in omega arith;
  carries = c.answer-answer.ensures.carries ∙ c.loop-command.invariant.carries;
  came = let before = c.loop-command.invariant.came in let more = c.answer-answer.ensures.came in omega arith;
  events = λ rest new runs.
      rw (c.push_reserved.ensures.items, append_assoc)
      (c.loop-command.invariant.events (c.answer-answer.result ∷ rest) new
      (runs_to-at c.loop-command.self c.answer-answer.new.self new c.args.commands.now c.loop-command.command-index (Enter 0 0)
      c.answer-answer.result rest c.loop-command-test.true c.answer-answer.ensures.event runs));
  rest = λ rest new runs.
      rw (c.push_reserved.ensures.items, append_assoc)
      (c.loop-command.invariant.rest (c.answer-answer.result ∷ rest) new
      (runs-at c.loop-command.self c.answer-answer.new.self new c.args.commands.now c.loop-command.command-index (Enter 0 0)
      c.answer-answer.result rest c.loop-command-test.true c.answer-answer.ensures.history c.answer-answer.ensures.network runs));
}

pub returns-clause-events : goal.returns-clause-events
returns-clause-events c =
    let done : drop c.loop-command.command-index c.args.commands.now ≡ [] = grind (arith, common_steps) in
    rw append-nil at (c.loop-command.invariant.events [] c.loop-command.self (rw done refl))

pub returns-clause-history : goal.returns-clause-history
returns-clause-history c =
    let done : drop c.loop-command.command-index c.args.commands.now ≡ [] = grind (arith, common_steps) in
    rw append-nil at (c.loop-command.invariant.rest [] c.loop-command.self (rw done (runs-none c.loop-command.self)))
