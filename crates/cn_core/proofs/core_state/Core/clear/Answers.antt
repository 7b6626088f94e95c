use Rattle.cn_core.proofs.Common.{rules, ◌≡◌, ◌∙◌, refl, subst, sym, ap, replicate, IsCore, State, positions, start}
use Rattle.cn_core.proofs.LedgerLemmas.{IsCore-start}
use Rattle.cn_core.proofs.core_state.Core.clear.Goals as goal

-- the state is that of a network that nobody has entered
state-is : (c : goal.After-clear-2) → ◌≡◌ {A = State}
    (record {
      network = c.self.inside.network.now;
      base = 0;
      entered = c.fill.new.self.items;
      passes = c.fill-2.new.self.items;
      visits = c.clear.new.self;
      clients = positions c.clear-2.new.self;
    }) (start c.self.inside.network.now)
state-is c =
    let is = c.self.invariant.core.state in
    let entered : c.fill.new.self.items ≡ replicate c.self.inside.network.now.table.entries 0 = search rules in
    let passes : c.fill-2.new.self.items ≡ replicate c.self.inside.network.now.table.balancers 0 = search rules in
    let visits : c.clear.new.self ≡ replicate c.self.inside.network.now.table.width 0 =
    c.clear.ensures ∙ ap (λ n. replicate n 0) is.exits in
    rw (entered, passes, visits, c.clear-2.ensures.nobody) refl

pub invariant_of-self : goal.invariant_of-self
invariant_of-self c = record {
  core = subst IsCore (sym (state-is c)) (IsCore-start c.self.inside.network.now c.self.invariant.core.state.network);
  wires = c.clear-2.ensures.wires ∙ c.self.invariant.wires;
}
