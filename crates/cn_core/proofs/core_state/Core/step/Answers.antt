use Rattle.cn_core.proofs.Common.{rules, refl, sym, ◌≡◌, ◌∙◌, Some, slice_index, Balancer, Exit, On, State, Walking, position_in, position_past, positions, state_after_step, with_position, standing_of_client, state_of}
use Rattle.cn_core.proofs.HistoryLemmas.{history-step}
use Rattle.cn_core.proofs.TightLemmas.{room-past}
use Rattle.cn_core.proofs.StateLemmas.{name-later}
use Rattle.cn_core.proofs.LedgerLemmas.{IsCore-state_after_step, ledger-step}
use Rattle.cn_core.proofs.core_state.Core.step.Goals as goal

pub count_one-number-requires-clause-room : goal.count_one-number-requires-clause-room
count_one-number-requires-clause-room c =
    room-past (state_of c.self.inside) c.self.invariant.core (Balancer c.in-Balancer.balancer) c.in-Balancer.ensures.there

pub take-visit-requires-clause-room : goal.take-visit-requires-clause-room
take-visit-requires-clause-room c =
    room-past (state_of c.self.inside) c.self.invariant.core (Exit c.in-Exit.exit) c.in-Exit.ensures.there

pub overflow_sub-name : goal.overflow_sub-name
overflow_sub-name c =
    let later = name-later (state_of c.self.inside) c.self.invariant.core.state c.in-Exit.exit c.in-Exit.ensures.there in
    rw (c.take-visit.ensures.name, c.take-visit.ensures.visit, c.self.invariant.core.state.exits) later

-- the clients once the token stands on the wire behind the balancer
walked : (c : goal.After-walk) → positions c.walk.new.self
    ≡ (state_after_step (state_of c.self.inside) c.args.client (Balancer c.in-Balancer.balancer)).clients
walked c =
    let token : standing_of_client c.self.inside.clients.names c.args.client ≡ Some (Walking c.in-Walking.token) =
    rw c.in-Walking.is at c.in-Some.ensures.token in
    rw (c.entries.ensures.value, c.output_of.ensures, c.count_one-number.ensures.before) at (c.walk.ensures.walked c.args.client token)

pub invariant_of-self : goal.invariant_of-self
invariant_of-self c =
    let s : State = state_of c.self.inside in
    let on : position_in s.clients c.args.client ≡ Some (On c.in-Walking.wire) = sym (rw c.in-Walking.is at c.in-Some.ensures.position) in
    record {
      core = rw (c.count_one-number.ensures.after, walked c)
          (IsCore-state_after_step s c.args.client c.in-Walking.wire (Balancer c.in-Balancer.balancer) c.self.invariant.core on
          c.in-Balancer.ensures.at);
      wires = c.walk.ensures.wires ∙ c.self.invariant.wires;
    }

pub returns-in-Balancer-clause-event : goal.returns-in-Balancer-clause-event
returns-in-Balancer-clause-event c = (
  c.in-Walking.wire,
  search rules,
  search rules,
  rw (← c.self.view_is, c.in-Balancer.ensures.at, c.count_one-number.ensures.after, walked c) refl,
)

pub invariant_of-self-in-Exit : goal.invariant_of-self-in-Exit
invariant_of-self-in-Exit c =
    let s : State = state_of c.self.inside in
    let on : position_in s.clients c.args.client ≡ Some (On c.in-Walking.wire) = sym (rw c.in-Walking.is at c.in-Some.ensures.position) in
    let exits = c.self.invariant.core.state.exits in
    let clients : positions c.settle.new.self
    ≡ with_position s.clients c.args.client (position_past s.network.table s.base (Exit c.in-Exit.exit)
    (slice_index s.visits c.in-Exit.exit)) =
    rw (c.take-visit.ensures.name, c.take-visit.ensures.visit, exits) at c.settle.ensures.settled in
    record {
      core = rw (c.take-visit.ensures.counted, c.take-visit.ensures.visit, clients)
          (IsCore-state_after_step s c.args.client c.in-Walking.wire (Exit c.in-Exit.exit) c.self.invariant.core on c.in-Exit.ensures.at);
      wires = c.settle.ensures.wires ∙ c.self.invariant.wires;
    }

pub returns-in-Exit-clause-event : goal.returns-in-Exit-clause-event
returns-in-Exit-clause-event c = search rules

pub returns-in-Balancer-clause-history : goal.returns-in-Balancer-clause-history
returns-in-Balancer-clause-history c = rw (← c.self.view_is)
    (history-step _ c.args.client _ _ c.self.invariant.core.state (rw (← c.self.view_is) at (returns-in-Balancer-clause-event c)))

pub returns-in-Exit-clause-history : goal.returns-in-Exit-clause-history
returns-in-Exit-clause-history c = rw (← c.self.view_is)
    (history-step _ c.args.client _ _ c.self.invariant.core.state (rw (← c.self.view_is) at (returns-in-Exit-clause-event c)))

pub returns-in-Balancer-clause-ledger : goal.returns-in-Balancer-clause-ledger
returns-in-Balancer-clause-ledger c =
    let event = rw (← c.self.view_is) at (returns-in-Balancer-clause-event c) in
    rw (← c.self.view_is) (ledger-step _ c.args.client _ _ c.self.invariant.core.state event)

pub returns-in-Exit-clause-ledger : goal.returns-in-Exit-clause-ledger
returns-in-Exit-clause-ledger c =
    let event = rw (← c.self.view_is) at (returns-in-Exit-clause-event c) in
    rw (← c.self.view_is) (ledger-step _ c.args.client _ _ c.self.invariant.core.state event)
