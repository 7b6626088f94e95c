use Rattle.cn_core.proofs.Common.{◌≡◌, ◌+◌, ◌∙◌, [], ◌∷◌, length, refl, subst, sym, IsCore, State, after_carry, inside_in, positions, state_of, Agrees}
use Rattle.cn_core.proofs.TightLemmas.{IsCore-after_carry, visits-after-carry}
use Rattle.cn_core.proofs.HistoryLemmas.{Agrees-after_carry}
use Rattle.cn_core.proofs.core_state.Core.carry.Goals as goal

quiet : (c : goal.After-clear) → inside_in (state_of c.self.inside) ≡ 0
quiet c = rw (← c.self.view_is) at c.requires.quiet

entered : (c : goal.After-clear) → c.entered.result ≡ length (positions c.self.inside.clients)
entered c = rw (← c.self.view_is) at c.entered.ensures.value

-- the state is the one in which the next epoch begins
state-is : (c : goal.After-clear) → ◌≡◌ {A = State}
    (record {
      network = c.self.inside.network.now;
      base = c.self.inside.base + c.entered.result;
      entered = c.self.inside.entry_counts.items;
      passes = c.self.inside.passes.items;
      visits = c.self.inside.exits;
      clients = positions c.clear.new.self;
    })
    (after_carry (state_of c.self.inside))
state-is c = rw (entered c, c.clear.ensures.nobody) refl

pub invariant_of-self : goal.invariant_of-self
invariant_of-self c = record {
  core = subst IsCore (sym (state-is c)) (IsCore-after_carry (state_of c.self.inside) c.self.invariant.core (quiet c)
      (rw (← c.self.view_is) at c.requires.room));
  wires = c.clear.ensures.wires ∙ c.self.invariant.wires;
}

pub returns-clause-visits : goal.returns-clause-visits
returns-clause-visits c = rw (← c.self.view_is, entered c) (visits-after-carry (state_of c.self.inside) c.self.invariant.core (quiet c))

pub returns-clause-history : goal.returns-clause-history
returns-clause-history c =
    rw (← c.self.view_is)
    (λ history earlier agrees. subst (λ (s : State). Agrees s [] (history ∷ earlier)) (sym (state-is c))
    (Agrees-after_carry (state_of c.self.inside) history earlier (quiet c) agrees))
