use Rattle.cn_floor.proofs.Common.{◌≡◌, ℕ, ◌*◌, ◌≤◌, sym, ap, ◌∙◌, subst, IsClosed, IsStart, Network, WordsValue, base, word_count, client_count, start_after, words_before}
use Rattle.cn_spec.specs.declared.limits.TheConstants.{MOST_TAKEN}
use Rattle.cn_floor.proofs.floor.Floor.lay.Goals as goal

begun : (w : WordsValue) (quota : ℕ) → IsClosed w → client_count w ≤ MOST_TAKEN → quota ≤ MOST_TAKEN → IsStart (start_after w quota)
begun w quota closed few low = record { network = closed.network; quota = low; carried = closed.carried; few = few }

-- words as they are kept are those as contracts see them
words-are : (w inside : WordsValue) (network : Network) (stride : ℕ) → inside ≡ w → network ≡ w.network → stride ≡ inside.stride
    → record { network = network; words = inside.words; stride = stride } ≡ w
words-are w inside network stride same over lies = λ i. record {
  network = over i;
  words = (same i).words;
  stride = (lies ∙ ap (λ (x : WordsValue). x.stride) same) i;
}

pub new-made-requires-clause-began : goal.new-made-requires-clause-began
new-made-requires-clause-began c =
    subst (λ (w : WordsValue). IsStart (start_after w c.args.quota))
    (sym (words-are _ _ _ _ c.words.view_is c.network.ensures c.stride-stride.ensures.exact))
    (begun c.args.words c.args.quota (subst IsClosed c.words.view_is c.words.invariant.closed) c.requires.few.0 c.requires.few.1)

pub returns-clause-floor : goal.returns-clause-floor
returns-clause-floor c =
    c.in-Ok.ensures.start ∙ ap (λ (w : WordsValue). start_after w c.args.quota)
    (words-are _ _ _ _ c.words.view_is c.network.ensures c.stride-stride.ensures.exact)

pub invariant_of-floor : goal.invariant_of-floor
invariant_of-floor c =
    let is : c.in-Ok.counters.start ≡ start_after c.args.words c.args.quota =
    c.in-Ok.ensures.start ∙ ap (λ (w : WordsValue). start_after w c.args.quota)
    (words-are _ _ _ _ c.words.view_is c.network.ensures c.stride-stride.ensures.exact) in
    record {
      base = c.words.invariant.clients ∙ ap client_count c.words.view_is ∙ ap base (sym is);
      before = ap words_before (sym is);
      began = subst IsStart (sym is) (begun c.args.words c.args.quota (subst IsClosed c.words.view_is c.words.invariant.closed)
          c.requires.few.0 c.requires.few.1);
    }

pub returns-clause-spaced : goal.returns-clause-spaced
returns-clause-spaced c =
    c.in-Ok.ensures.spaced
    ∙ ap (λ (w : WordsValue). w.stride * word_count w.network.table)
    (words-are _ _ _ _ c.words.view_is c.network.ensures c.stride-stride.ensures.exact)
