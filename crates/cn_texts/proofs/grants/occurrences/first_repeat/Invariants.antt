use Rattle.cn_texts.proofs.GrantLemmas.Repeats.{IsSeen}
use Rattle.cn_texts.proofs.grants.occurrences.first_repeat.Given as goal

abbrev pub invariant-loop-at : goal.invariant-loop-at
invariant-loop-at l = record {
  seen : IsSeen l.occurrences l.at l.first;
}
