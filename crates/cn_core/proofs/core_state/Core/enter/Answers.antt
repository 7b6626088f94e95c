use Rattle.cn_core.proofs.Common.{◌∙◌, rules, ◌≡◌, arith, None, ◌++◌, ◌∷◌, [], On, State, carried_by, position_in, positions, state_of}
use Rattle.cn_core.proofs.LedgerMoves.{ledger-enters}
use Rattle.cn_core.proofs.LedgerLemmas.{IsCore-state_after_enter}
use Rattle.cn_core.proofs.TightLemmas.{room-entered}
use Rattle.cn_core.proofs.HistoryLemmas.{history-enter}
use Rattle.cn_core.proofs.core_state.Core.enter.Goals as goal

pub count_one-requires-clause-room : goal.count_one-requires-clause-room
count_one-requires-clause-room c = room-entered (state_of c.self.inside) c.self.invariant.core.state c.args.entry (omega arith)

pub invariant_of-self-2 : goal.invariant_of-self-2
invariant_of-self-2 c =
    let s : State = state_of c.self.inside in
    let absent : position_in s.clients c.args.client ≡ None = search rules in
    let clients : positions c.add.new.self ≡ s.clients ++ (c.args.client, On c.args.entry) ∷ [] = search rules in
    record {
      core = rw (c.count_one.ensures.after, clients)
          (IsCore-state_after_enter s c.args.client c.args.entry c.self.invariant.core (omega arith) absent (omega arith));
      wires = c.add.ensures.wires ∙ c.self.invariant.wires;
    }

pub returns-clause-history : goal.returns-clause-history
returns-clause-history c = rw (← c.self.view_is) (history-enter _ c.args.client c.args.entry _ _ c.self.invariant.core.state (search rules))

pub returns-clause-ledger : goal.returns-clause-ledger
returns-clause-ledger c =
    let s : State = state_of c.self.inside in
    let clients : positions c.add.new.self ≡ s.clients ++ (c.args.client, On c.args.entry) ∷ [] = search rules in
    rw (← c.self.view_is, c.count_one.ensures.after, clients)
    (λ h earlier a. ledger-enters s h (carried_by s.network.table earlier) c.args.client c.args.entry c.self.invariant.core.state
    (omega arith))
