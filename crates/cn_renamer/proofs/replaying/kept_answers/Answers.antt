use Rattle.cn_renamer.proofs.Common.{◌≡◌, ◌++◌, ◌∷◌, ◌∙◌, [], append-nil, append_assoc, arith, drop, refl, rules, common_steps, All-push, AllZip-push, HadMemory, Enter, IsKept}
use Rattle.cn_epoch.proofs.CallerLemmas.{runs-at, runs-none}
use Rattle.cn_renamer.proofs.replaying.kept_answers.Goals as goal

pub loop-command-init : goal.loop-command-init
loop-command-init c = record {
  so_far = search rules;
  room = search rules;
  network = refl;
  number = omega arith;
  clears = c.requires.clears;
  answered = ([], (λ k d l. absurd (omega arith)), rw c.in_ok-answers.ensures.items tt, λ rest new runs. runs);
}

pub loop-command-preserved : goal.loop-command-preserved
loop-command-preserved c =
    let w = c.args.epochs.now.core.network.table.width in
    let (done, memory, are, rest) = c.loop-command.invariant.answered in
    let (answer, given) = c.in_ok-kept.ensures.answered in
    let network = c.loop-command.invariant.network in
    record {
      so_far = search rules;
      room = search rules;
      network = c.in_ok-kept.ensures.network ∙ network;
      number = let before = c.loop-command.invariant.number in let more = c.in_ok-kept.ensures.number in omega arith;
      clears = c.in_ok-kept.ensures.clears;
      answered = (
        done ++ answer ∷ [],
        All-push HadMemory done answer memory given.memory,
        rw c.push_reserved.ensures.items (AllZip-push (IsKept w) done c.loop-command.answers.items answer c.in_ok-kept.kept are
            (rw network at given.is_kept)),
        λ others new runs.
            rw append_assoc (rest (answer ∷ others) new
            (runs-at c.loop-command.epochs c.kept_answer.new.epochs new c.args.commands.now c.loop-command.command-index (Enter 0 0) answer
            others c.loop-command-test.true given.by_history c.in_ok-kept.ensures.network runs)),
      );
    }

pub returns-clause-answered : goal.returns-clause-answered
returns-clause-answered c =
    let (done, memory, are, rest) = c.loop-command.invariant.answered in
    let over : drop c.loop-command.command-index c.args.commands.now ≡ [] = grind (arith, common_steps) in
    let whole = rest [] c.loop-command.epochs (rw over (runs-none c.loop-command.epochs)) in
    (done, record { by_history = rw append-nil at whole; memory = memory; are_kept = are })
