-- The answers of a core, by the events that it accepted since its counts were zero: the history of the epoch that
-- stands open, and those of the earlier epochs whose counts it carries. The newest event stands first, and so does the
-- newest epoch. They are one sequential execution of the network (Aspnes, Herlihy, Shavit, JACM 1994, section 2.1);
-- this way to state it is this project's own.
use Rattle.std.specs.Prelude.{◌≡◌, ℕ, ◌+◌, ◌-◌, ◌%◌, ◌==◌, ◌&&◌, nat_le, Bool, true, false, List, ◌∷◌, [], Option, None, Some, is_some, slice_index, if◌then◌else◌, ◌⊎◌, length, count_by}
use Rattle.std.specs.Map.{values_of}
use Rattle.std.specs.Option.{option_map}
use Rattle.cn_spec.specs.Step.{name_of}
use Rattle.cn_spec.specs.declared.limits.TheConstants.{MOST_CLIENTS}
use Rattle.cn_tables.specs.declared.end.End.{End}
use Rattle.cn_tables.specs.declared.end.End.TheVariants.{Balancer, Exit}
use Rattle.cn_tables.specs.Table.{Table, end_of, is_end, output_wire}
use Rattle.cn_core.specs.declared.position.Position.{Position}
use Rattle.cn_core.specs.declared.position.Position.TheVariants.{On, Holds}
use Rattle.cn_core.specs.declared.event.Event.{Event}
use Rattle.cn_core.specs.declared.event.Event.TheVariants.{Enter, Step}
use Rattle.cn_ledger.specs.declared.moved.Moved.{Moved}
use Rattle.cn_ledger.specs.declared.moved.Moved.TheVariants.{On as Passed, Out}
use Rattle.cn_ledger.specs.declared.reply.EnterFault.TheVariants.{NoSuchEntry, AlreadyIn, EpochFull, Memory}
use Rattle.cn_ledger.specs.declared.reply.StepFault.TheVariants.{Stranger, HasName}
use Rattle.cn_ledger.specs.declared.reply.Reply.{Reply}
use Rattle.cn_ledger.specs.declared.reply.Reply.TheVariants.{Entered, EnterRefused, Stepped, StepRefused}
use Rattle.cn_core.specs.State.{State, position_in, position_past, past, is_named}

-- the end of the wire that a client at this position stands on, if it stands on one
abbrev pub end_at : Table → Option Position → Option End
end_at table None = None
end_at table (Some (On wire)) = Some (end_of table wire)
end_at table (Some (Holds name)) = None

-- is it this end?
abbrev pub is_same_end : End → Option End → Bool
is_same_end end None = false
is_same_end end (Some other) = is_end end other

-- what the earlier epochs left: how many enters they have, how many of them on each entry, and how many steps from
-- wires with each end
pub record Carried : Type 0 where
  pub enters : ℕ
  pub entered : ℕ → ℕ
  pub steps : End → ℕ

abbrev mutual
  -- the position of a client: its enter puts it on the entry's wire, and each of its steps takes it past the end of its
  -- wire; a name is that of its exit and visit minus the enters of the earlier epochs
  pub position_after : Table → List Event → Carried → ℕ → Option Position
  position_after table [] carried client = None
  position_after table (Enter c entry ∷ history) carried client =
      if client == c then Some (On entry) else position_after table history carried client
  position_after table (Step c ∷ history) carried client =
      if client == c
      then option_map (λ end. position_past table carried.enters end (steps_before table history carried end))
      (end_at table (position_after table history carried c))
      else position_after table history carried client

  -- how many steps of the earlier epochs and of the history were made from wires with this end
  pub steps_before : Table → List Event → Carried → End → ℕ
  steps_before table [] carried end = carried.steps end
  steps_before table (Enter c entry ∷ history) carried end = steps_before table history carried end
  steps_before table (Step c ∷ history) carried end =
      steps_before table history carried end
      + (if is_same_end end (end_at table (position_after table history carried c)) then 1 else 0)

-- how often the steps of the history are passage n of balancer b: a step from a wire that ends at the balancer is a
-- passage, with the number that the history gives
abbrev pub times_passed : Table → List Event → Carried → ℕ → ℕ → ℕ
times_passed table [] carried b n = 0
times_passed table (Enter c entry ∷ history) carried b n = times_passed table history carried b n
times_passed table (Step c ∷ history) carried b n =
    times_passed table history carried b n
    + (if is_same_end (Balancer b) (end_at table (position_after table history carried c))
    && (steps_before table history carried (Balancer b) == n) then 1 else 0)

-- how many enters of the earlier epochs and of the history were on this entry
abbrev pub enters_on : List Event → Carried → ℕ → ℕ
enters_on [] carried entry = carried.entered entry
enters_on (Enter c e ∷ history) carried entry = enters_on history carried entry + (if entry == e then 1 else 0)
enters_on (Step c ∷ history) carried entry = enters_on history carried entry

-- how many enters the history has
abbrev pub enters_of : List Event → ℕ
enters_of [] = 0
enters_of (Enter c e ∷ history) = enters_of history + 1
enters_of (Step c ∷ history) = enters_of history

-- does a step from a wire with this end leave the network?
abbrev pub is_leave : Option End → Bool
is_leave None = false
is_leave (Some (Balancer b)) = false
is_leave (Some (Exit i)) = true

-- how many steps of the history left the network
abbrev pub leaves_of : Table → List Event → Carried → ℕ
leaves_of table [] carried = 0
leaves_of table (Enter c entry ∷ history) carried = leaves_of table history carried
leaves_of table (Step c ∷ history) carried =
    leaves_of table history carried
    + (if is_leave (end_at table (position_after table history carried c)) then 1 else 0)

-- how many clients of the history are inside: they entered and have not left
abbrev pub inside_of : Table → List Event → Carried → ℕ
inside_of table history carried = enters_of history - leaves_of table history carried

-- the answer to the n-th step, from 0, that is made from a wire with this end; a name is that of its exit and visit
-- minus the base
abbrev pub moved_past : Table → ℕ → End → ℕ → Moved
moved_past table base (Balancer b) n = Passed b n (output_wire table b (n % 2))
moved_past table base (Exit i) n = Out i n (name_of table.width i n - base)

-- the answer to a step of a client at this position
abbrev pub step_answer : Table → List Event → Carried → Option Position → Reply
step_answer table history carried None = StepRefused Stranger
step_answer table history carried (Some (Holds name)) = StepRefused (HasName name)
step_answer table history carried (Some (On wire)) =
    Stepped (moved_past table carried.enters (end_of table wire)
    (steps_before table history carried (end_of table wire)))

-- the answer to an event after a history
abbrev pub answer_to : Table → List Event → Carried → Event → Reply
answer_to table history carried (Enter client entry) =
    if nat_le table.entries entry then EnterRefused NoSuchEntry
    else if is_some (position_after table history carried client) then EnterRefused AlreadyIn
    else if nat_le MOST_CLIENTS (enters_of history) then EnterRefused EpochFull
    else Entered
answer_to table history carried (Step client) =
    step_answer table history carried (position_after table history carried client)

-- was the event accepted?
abbrev pub is_accepted : Reply → Bool
is_accepted Entered = true
is_accepted (Stepped moved) = true
is_accepted (EnterRefused fault) = false
is_accepted (StepRefused fault) = false

-- the history once an event has its answer: a refused event is not in it
abbrev pub history_after : List Event → Event → Reply → List Event
history_after history event reply = if is_accepted reply then event ∷ history else history

-- the answers to events, one after another
abbrev pub answers_to : Table → List Event → Carried → List Event → List Reply
answers_to table history carried [] = []
answers_to table history carried (event ∷ events) =
    answer_to table history carried event
    ∷ answers_to table (history_after history event (answer_to table history carried event)) carried events

-- the history once the events have these answers
abbrev pub history_by : List Event → List Event → List Reply → List Event
history_by history [] replies = history
history_by history (event ∷ events) [] = history
history_by history (event ∷ events) (reply ∷ replies) = history_by (history_after history event reply) events replies

-- a core may give this answer: want of memory may stand in place of an acceptance of an enter
abbrev pub MayAnswer : Table → List Event → Carried → Event → Reply → Type 0
MayAnswer table history carried event reply =
    (reply ≡ answer_to table history carried event)
    ⊎ (answer_to table history carried event ≡ Entered) × (reply ≡ EnterRefused Memory)

-- a core may give these answers to these events, one after another
abbrev pub MayAnswerAll : Table → List Event → Carried → List Event → List Reply → Type 0
MayAnswerAll table history carried [] [] = Unit {0}
MayAnswerAll table history carried (event ∷ events) (reply ∷ replies) =
    MayAnswer table history carried event reply
    × MayAnswerAll table (history_after history event reply) carried events replies
MayAnswerAll table history carried [] (reply ∷ replies) = ⊥
MayAnswerAll table history carried (event ∷ events) [] = ⊥

-- each event was accepted after those before it
abbrev pub IsHistory : Table → List Event → Carried → Type 0
IsHistory table [] carried = Unit {0}
IsHistory table (event ∷ history) carried =
    (is_accepted (answer_to table history carried event) ≡ true) × IsHistory table history carried

-- no two clients hold one name
abbrev pub HasOneHolder : Table → List Event → Carried → Type 0
HasOneHolder table history carried =
    (client other name : ℕ) → position_after table history carried client ≡ Some (Holds name)
    → position_after table history carried other ≡ Some (Holds name) → client ≡ other

-- what these epochs leave: nothing if there are none
abbrev pub carried_by : Table → List (List Event) → Carried
carried_by table [] = record { enters = 0; entered = λ _. 0; steps = λ _. 0 }
carried_by table (epoch ∷ earlier) = record {
  enters = (carried_by table earlier).enters + enters_of epoch;
  entered = enters_on epoch (carried_by table earlier);
  steps = steps_before table epoch (carried_by table earlier);
}

-- each event of these epochs was accepted after those before it, and each epoch ended with nobody inside
abbrev pub AreEpochs : Table → List (List Event) → Type 0
AreEpochs table [] = Unit {0}
AreEpochs table (epoch ∷ earlier) =
    IsHistory table epoch (carried_by table earlier)
    × (inside_of table epoch (carried_by table earlier) ≡ 0) × AreEpochs table earlier

-- the positions and counts of a state are those that the history gives after what is carried
pub record AgreesAfter (state : State) (history : List Event) (carried : Carried) : Type 0 where
  pub base : state.base ≡ carried.enters
  pub accepted : IsHistory state.network.table history carried
  pub positions : (client : ℕ) → position_in state.clients client
      ≡ position_after state.network.table history carried client
  pub entered : (entry : ℕ) → slice_index state.entered entry ≡ enters_on history carried entry
  pub total : length state.clients ≡ enters_of history
  pub left : count_by is_named (values_of state.clients) ≡ leaves_of state.network.table history carried
  pub counts : (end : End) → past state end ≡ steps_before state.network.table history carried end

-- a state agrees with a history together with the earlier epochs: its positions and counts are those that they give
abbrev pub Agrees : State → List Event → List (List Event) → Type 0
Agrees state history earlier =
    AreEpochs state.network.table earlier × AgreesAfter state history (carried_by state.network.table earlier)

-- something holds of each history, and of what is carried, that the state agrees with
abbrev pub ByHistories : State → (List Event → Carried → Type 0) → Type 0
ByHistories state P =
    (history : List Event) (earlier : List (List Event)) → Agrees state history earlier
    → P history (carried_by state.network.table earlier)
