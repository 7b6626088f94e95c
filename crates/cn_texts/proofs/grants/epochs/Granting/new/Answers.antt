use Rattle.cn_texts.proofs.Common.{refl, arith, ◌∙◌}
use Rattle.cn_texts.proofs.GrantLemmas.Repeats.{no-occurrences}
use Rattle.cn_texts.proofs.grants.epochs.Granting.new.Goals as goal

pub returns-clause-checked : goal.returns-clause-checked
returns-clause-checked c = record {
  holds = record {
    before = refl;
    below = tt;
    here = tt;
    clients = c.new-2.ensures.items ∙ no-occurrences 0;
    names = c.new-3.ensures.items ∙ no-occurrences 0;
    gap = λ e n lt lack. omega (arith, lt);
  };
  last = refl;
  tells = λ none. rw c.new.ensures.items (record { numbers = refl; seen = refl; below = tt });
}
