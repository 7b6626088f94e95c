use Rattle.cn_floor.proofs.Common.{subst, PostValue, Start, slots_items, words_in, IsEnding}
use Rattle.cn_floor.proofs.AtClose.Spread.{ending-spread, picked-all}
use Rattle.cn_floor.proofs.floor.counters.Counters.close.Goals as goal

pub returns-clause-ending : goal.returns-clause-ending
returns-clause-ending c =
    subst (λ (z : Start × PostValue). IsEnding z.0 z.1.view (words_in c.self.inside.stride (slots_items c.close_with.result.words)))
    (λ i. ((c.self.view_is i).start, c.post.view_is i))
    (ending-spread c.self.inside c.self.invariant _ c.close_with.ensures.values.2)

pub returns-clause-spaced : goal.returns-clause-spaced
returns-clause-spaced c = record {
  some = c.self.invariant.stride.0;
  apart = picked-all c.self.inside c.self.invariant _ c.close_with.ensures.values.2;
}
