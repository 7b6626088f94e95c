-- What a core keeps, as contracts see it: the state of a balancing network whose tokens belong to clients (Aspnes,
-- Herlihy, Shavit, JACM 1994, section 2.1).
use Rattle.std.specs.Prelude.{◌≡◌, ℕ, ◌+◌, ◌-◌, ◌%◌, ◌<◌, ◌≤◌, Bool, true, false, nat_eq, List, ◌∷◌, [], ◌++◌, Option, None, Some, slice_index, length, count_by, replicate}
use Rattle.std.specs.Map.{lookup, set_value, values_of}
use Rattle.cn_spec.specs.Step.{name_of, share}
use Rattle.cn_spec.specs.Sums.{one_more, sum_below}
use Rattle.cn_spec.specs.declared.limits.TheConstants.{MOST_CARRIED, MOST_CLIENTS}
use Rattle.cn_tables.specs.declared.end.End.{End}
use Rattle.cn_tables.specs.declared.end.End.TheVariants.{Balancer, Exit}
use Rattle.cn_tables.specs.Table.{Table, output_wire}
use Rattle.cn_tables.specs.Network.{Network, IsNetwork}
use Rattle.cn_core.specs.declared.position.Position.{Position}
use Rattle.cn_core.specs.declared.position.Position.TheVariants.{On, Holds}

-- a network with its counts since they were zero, and the clients of the epoch that stands open in the order in which
-- they entered
pub record State : Type 0 where
  pub network : Network
  -- how many clients came in the earlier epochs whose counts are carried
  pub base : ℕ
  -- how many came in by each entry, passed each balancer, and left by each exit
  pub entered : List ℕ
  pub passes : List ℕ
  pub visits : List ℕ
  pub clients : List (ℕ × Position)

-- the position of a client, if it is in the list
abbrev pub position_in : List (ℕ × Position) → ℕ → Option Position
position_in clients client = lookup (nat_eq client) clients

-- where the n-th token, from 0, comes to that goes past an end; a name is that of its exit and visit minus the base
abbrev pub position_past : Table → ℕ → End → ℕ → Position
position_past table base (Balancer b) n = On (output_wire table b (n % 2))
position_past table base (Exit i) n = Holds (name_of table.width i n - base)

-- how many tokens went past an end
abbrev pub past : State → End → ℕ
past s (Balancer b) = slice_index s.passes b
past s (Exit i) = slice_index s.visits i

-- how many came in by all entries since the counts were zero
abbrev pub came_in : State → ℕ
came_in s = sum_below s.network.table.entries (λ entry. slice_index s.entered entry)

-- the state after a client enters
abbrev pub state_after_enter : State → ℕ → ℕ → State
state_after_enter s client entry = record {
  network = s.network;
  base = s.base;
  entered = one_more s.entered entry;
  passes = s.passes;
  visits = s.visits;
  clients = s.clients ++ (client, On entry) ∷ [];
}

-- the state after a client steps off a wire with this end
abbrev pub state_after_step : State → ℕ → End → State
state_after_step s client (Balancer b) = record {
  network = s.network;
  base = s.base;
  entered = s.entered;
  passes = one_more s.passes b;
  visits = s.visits;
  clients = set_value (nat_eq client) s.clients
      (position_past s.network.table s.base (Balancer b) (slice_index s.passes b));
}
state_after_step s client (Exit i) = record {
  network = s.network;
  base = s.base;
  entered = s.entered;
  passes = s.passes;
  visits = one_more s.visits i;
  clients = set_value (nat_eq client) s.clients
      (position_past s.network.table s.base (Exit i) (slice_index s.visits i));
}

-- a network that nobody has entered
abbrev pub start : Network → State
start network = record {
  network = network;
  base = 0;
  entered = replicate network.table.entries 0;
  passes = replicate network.table.balancers 0;
  visits = replicate network.table.width 0;
  clients = [];
}

-- the state once the epoch is over and its counts are carried on: its clients are of the base
abbrev pub after_carry : State → State
after_carry s = record {
  network = s.network;
  base = s.base + length s.clients;
  entered = s.entered;
  passes = s.passes;
  visits = s.visits;
  clients = [];
}

-- does the client hold a name?
abbrev pub is_named : Position → Bool
is_named (On wire) = false
is_named (Holds name) = true

-- is the client inside?
abbrev pub is_inside : Position → Bool
is_inside (On wire) = true
is_inside (Holds name) = false

-- how many clients are inside
abbrev pub inside_in : State → ℕ
inside_in s = count_by is_inside (values_of s.clients)

-- the name at a position, if there is one
abbrev pub name_at : Option Position → Option ℕ
name_at None = None
name_at (Some (On wire)) = None
name_at (Some (Holds name)) = Some name

-- the name of a client, if it holds one
abbrev pub name_in : State → ℕ → Option ℕ
name_in s client = name_at (position_in s.clients client)

-- how often a client entered, as the list has it
abbrev pub times_entered : ℕ → List (ℕ × Position) → ℕ
times_entered client clients = count_by (λ e. nat_eq client e.0) clients

-- the counts and positions of a state fit its network and each other
pub record IsState (s : State) : Type 0 where
  pub network : IsNetwork s.network
  pub entries : length s.entered ≡ s.network.table.entries
  pub balancers : length s.passes ≡ s.network.table.balancers
  pub exits : length s.visits ≡ s.network.table.width
  pub few : length s.clients ≤ MOST_CLIENTS
  -- each exit has let out its share of the base before anybody of the epoch left
  pub carried : s.base ≤ MOST_CARRIED
  pub shares : (i : ℕ) → i < s.network.table.width → share s.base s.network.table.width i ≤ slice_index s.visits i
  -- each client is there once, and each came in by an entry
  pub once : (client : ℕ) → times_entered client s.clients ≤ 1
  pub all : came_in s ≡ s.base + length s.clients
  pub on_wires : (client wire : ℕ) → position_in s.clients client ≡ Some (On wire)
      → wire < length s.network.table.ends
