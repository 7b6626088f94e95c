-- The ledger of a state: of all that came since the counts were zero. Of the clients that came in earlier epochs the
-- state keeps only the number: in the ledger client 0 stands for each of them.
use Rattle.std.specs.Prelude.{ℕ, ◌+◌, ◌==◌, ◌&&◌, Bool, false, nat_eq, nat_lt, List, slice_index, count_by}
use Rattle.std.specs.Map.{values_of}
use Rattle.cn_spec.specs.Step.{name_of, share}
use Rattle.cn_spec.specs.Sums.{when, once_below}
use Rattle.cn_tables.specs.declared.end.End.{End}
use Rattle.cn_tables.specs.declared.end.End.TheVariants.{Balancer, Exit}
use Rattle.cn_core.specs.declared.event.Event.{Event}
use Rattle.cn_core.specs.declared.position.Position.{Position}
use Rattle.cn_core.specs.declared.position.Position.TheVariants.{On, Holds}
use Rattle.cn_core.specs.State.{State, IsState, past}
use Rattle.cn_core.specs.History.{Agrees, Carried, carried_by, times_passed}
use Rattle.cn_ledger.specs.Ledger.{Ledger, IsSound}

-- does the token stand on this wire?
abbrev pub is_on : ℕ → Position → Bool
is_on u (On wire) = wire == u
is_on u (Holds name) = false

-- does the client hold this name of the ledger? Its position has the name minus the base.
abbrev pub holds : ℕ → ℕ → Position → Bool
holds base name (On wire) = false
holds base name (Holds other) = other + base == name

-- how often a number was given: a passage's in earlier epochs and in the history; a visit's in earlier epochs, which
-- gave each exit its share of the base, and to the clients that hold its name
abbrev pub given_in_state : State → List Event → Carried → End → ℕ → ℕ
given_in_state s history carried (Balancer b) n =
    once_below (carried.steps (Balancer b)) n + times_passed s.network.table history carried b n
given_in_state s history carried (Exit i) v =
    when (nat_lt i s.network.table.width)
    (once_below (share s.base s.network.table.width i) v
    + count_by (holds s.base (name_of s.network.table.width i v)) (values_of s.clients))

-- how often a client was granted a visit of an exit and its name
abbrev pub granted_in_state : State → ℕ → ℕ → ℕ → ℕ → ℕ
granted_in_state s c i v name =
    when (nat_lt i s.network.table.width && (name_of s.network.table.width i v == name))
    (when (0 == c) (once_below (share s.base s.network.table.width i) v)
    + count_by (λ e. nat_eq c e.0 && holds s.base name e.1) s.clients)

-- the ledger of a state, with the passages of a history after what is carried
abbrev pub state_ledger : State → List Event → Carried → Ledger
state_ledger s history carried = record {
  entered = λ entry. slice_index s.entered entry;
  count = past s;
  on = λ u. count_by (is_on u) (values_of s.clients);
  standing = λ u c. count_by (λ e. nat_eq c e.0 && is_on u e.1) s.clients;
  given = given_in_state s history carried;
  granted = granted_in_state s;
}

-- the ledger is sound by this history after what is carried
abbrev pub HasSoundLedger : State → List Event → Carried → Type 0
HasSoundLedger s history carried = IsSound s.network.table (state_ledger s history carried)

-- some history and earlier epochs lead to this state, and the ledger is sound by them
abbrev pub IsReached : State → Type 0
IsReached s =
    (history : List Event) × (earlier : List (List Event))
    × Agrees s history earlier × HasSoundLedger s history (carried_by s.network.table earlier)

-- what each core keeps
pub record IsCore (s : State) : Type 0 where
  pub state : IsState s
  pub reached : IsReached s
