use Rattle.cn_texts.proofs.Common.{length, length-map, get_or-map, sym, ◌∙◌, arith, numbers_of, Occurrence}
use Rattle.cn_texts.proofs.GrantLemmas.Repeats.{missing-there, occurrence, own-more, own-there}
use Rattle.cn_texts.proofs.grants.occurrences.least_missing.Goals as goal

pub returns-then-occurrences-at : goal.returns-then-occurrences-at
returns-then-occurrences-at c = λ rising.
    let size = length-map c.args.occurrences.now (λ (o : Occurrence). o.number) in
    let here = get_or-map (λ (o : Occurrence). o.number) c.args.occurrences.now c.loop-at.at (occurrence 0 0) 0 c.loop-at-test.true in (
      c.loop-at-test.true,
      missing-there (numbers_of c.args.occurrences.now) rising c.loop-at.at (omega (arith, size, c.loop-at-test.true))
          c.loop-at.invariant.own (λ e. c.if-occurrences-at.true (sym here ∙ e)),
      own-there (numbers_of c.args.occurrences.now) c.loop-at.at (omega (arith, size, c.loop-at-test.true)) c.loop-at.invariant.own,
    )

pub loop-at-preserved : goal.loop-at-preserved
loop-at-preserved c = record {
  own =
      let here = get_or-map (λ (o : Occurrence). o.number) c.args.occurrences.now c.loop-at.at (occurrence 0 0) 0 c.loop-at-test.true in
      own-more (numbers_of c.args.occurrences.now) c.loop-at.at c.loop-at.invariant.own (here ∙ c.if-occurrences-at.false);
}

pub returns : goal.returns
returns c = λ rising n h.
    let size = length-map c.args.occurrences.now (λ (o : Occurrence). o.number) in
    own-there (numbers_of c.args.occurrences.now) (length c.args.occurrences.now) (omega (arith, size))
    (λ k less. c.loop-at.invariant.own k (omega (arith, less, c.loop-at-test.false))) n h
