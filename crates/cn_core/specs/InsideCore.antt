-- What a core holds.
use Rattle.std.specs.Prelude.{◌≡◌, length}
use Rattle.cn_core.specs.declared.core_state.Core.TheInside.{Inside}
use Rattle.cn_core.specs.State.{State}
use Rattle.cn_core.specs.StateLedger.{IsCore}
use Rattle.cn_core.specs.InsideClients.{positions}

-- its state
abbrev pub state_of : Inside → State
state_of c = record {
  network = c.network.now;
  base = c.base;
  entered = c.entry_counts.items;
  passes = c.passes.items;
  visits = c.exits;
  clients = positions c.clients;
}

-- what each core keeps, and the yard has the network's wires
pub record IsInside (c : Inside) : Type 0 where
  pub core : IsCore (state_of c)
  pub wires : length c.clients.yard.lists ≡ length c.network.now.table.ends
