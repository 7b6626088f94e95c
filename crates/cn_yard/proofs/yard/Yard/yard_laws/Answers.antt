use Rattle.cn_yard.proofs.Common.{inl, inr, refl, arith, lists_of}
use Rattle.cn_yard.proofs.Wires.{bare-times, kept-live, opened, times-most}
use Rattle.cn_yard.proofs.Readers.{few-all, live-number, tokens-all}
use Rattle.cn_yard.proofs.There.{there}
use Rattle.cn_yard.proofs.yard.Yard.yard_laws.Goals as goal

pub returns-clause-once : goal.returns-clause-once
returns-clause-once c token =
    rw (← c.self.view_is) (elim (opened c.self.inside c.self.invariant) [
      | inl b ↦ omega (arith, bare-times c.self.inside b token)
      | inr k ↦ times-most c.self.inside k.0 k.1 token
    ])

pub returns-clause-there : goal.returns-clause-there
returns-clause-there c token client wire stands =
    let stood = rw (← c.self.view_is) at stands in
    let (order, k) = kept-live c.self.inside token c.self.invariant (rw stood refl) in
    rw (← c.self.view_is) (there (lists_of c.self.inside) token client wire (times-most c.self.inside order k token) stood)

pub returns-clause-numbers : goal.returns-clause-numbers
returns-clause-numbers c token stands =
    let y = c.self.inside in
    let within = live-number y c.self.invariant token (rw (← c.self.view_is) at stands) in
    rw (← c.self.view_is) (omega (arith, tokens-all y c.self.invariant))

pub returns-clause-few : goal.returns-clause-few
returns-clause-few c =
    let y = c.self.inside in
    rw (← c.self.view_is) (omega (arith, tokens-all y c.self.invariant, few-all y c.self.invariant))
