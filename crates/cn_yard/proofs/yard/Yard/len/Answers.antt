use Rattle.cn_yard.proofs.Common.{ap, arith, Yard, tokens_in}
use Rattle.cn_yard.proofs.Readers.{few-all, tokens-all}
use Rattle.cn_yard.proofs.yard.Yard.len.Goals as goal

pub overflow_cast-result : goal.overflow_cast-result
overflow_cast-result c = let y = c.self.inside in omega (arith, few-all y c.self.invariant, c.len.ensures)

pub overflow_sub-result : goal.overflow_sub-result
overflow_sub-result c =
    let y = c.self.inside in
    omega (arith, tokens-all y c.self.invariant, ap (λ (x : Yard). x.spare) c.self.view_is)

pub returns : goal.returns
returns c =
    let y = c.self.inside in
    omega (
      arith,
      tokens-all y c.self.invariant,
      ap (λ (x : Yard). x.spare) c.self.view_is,
      ap (λ (x : Yard). tokens_in x.lists) c.self.view_is,
    )
