use Rattle.cn_core.proofs.Common.{rules, ◌≡◌, ◌+◌, ◌*◌, [], List, ℕ, refl, subst, sym, ap, arith, ◌∙◌, replicate, length, length-replicate, Agrees, IsCore, State, positions, start, Clients}
use Rattle.cn_core.proofs.HistoryLemmas.{Agrees-start}
use Rattle.cn_core.proofs.LedgerLemmas.{IsCore-start}
use Rattle.cn_core.proofs.core_state.Core.new.Goals as goal

-- the state is that of a network that nobody has entered
state-is : (c : goal.In_ok-new-2) → ◌≡◌ {A = State}
    (record {
      network = c.args.network.now;
      base = 0;
      entered = c.in_ok-vec.field-0.items;
      passes = c.in_ok-vec-2.field-0.items;
      visits = c.in_ok-new.field-0;
      clients = positions c.in_ok-new-2.field-0;
    }) (start c.args.network.now)
state-is c =
    let entered : c.in_ok-vec.field-0.items ≡ replicate c.args.network.now.table.entries 0 = search rules in
    let passes : c.in_ok-vec-2.field-0.items ≡ replicate c.args.network.now.table.balancers 0 = search rules in
    rw (entered, passes, c.in_ok-new.ensures, c.in_ok-new-2.ensures, c.width.ensures.value) refl

pub invariant_of-result : goal.invariant_of-result
invariant_of-result c = record {
  core = subst IsCore (sym (state-is c)) (IsCore-start c.args.network.now c.entries.ensures.network);
  wires =
      let formed = c.entries.ensures.network.formed.wires in
      let entries = c.entries-2.ensures.value in
      let balancers = c.balancers-2.ensures.value in
      ap (λ (clients : Clients). length clients.yard.lists) c.in_ok-new-2.ensures
      ∙ length-replicate {A = List (ℕ × ℕ)} (c.entries-2.result + 2 * c.balancers-2.result) []
      ∙ omega arith;
}

pub returns-clause-history : goal.returns-clause-history
returns-clause-history c = subst (λ (s : State). Agrees s [] []) (sym (state-is c)) (Agrees-start c.args.network.now)
