-- What a held network is to contracts: the network, however it is held.
use Rattle.std.specs.Arc.{arc_value}
use Rattle.cn_tables.specs.Network.{Network}
use Rattle.cn_floor.specs.declared.floor.network_ref.Holding.{Holding}
use Rattle.cn_floor.specs.declared.floor.network_ref.Holding.TheVariants.{Borrowed, Shared}
use Rattle.cn_floor.specs.declared.floor.network_ref.NetworkRef.TheInside.{Inside}

-- the network that is borrowed, or shared by count
abbrev pub held_by : Holding → Network
held_by (Borrowed network) = network.now
held_by (Shared network) = arc_value network

-- a held network as contracts see it
abbrev pub network_of : Inside → Network
network_of r = held_by r.holding
