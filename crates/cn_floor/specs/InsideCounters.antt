-- What the shared words of a floor keep.
use Rattle.std.specs.Prelude.{◌≡◌, ◌*◌}
use Rattle.cn_floor.specs.declared.floor.counters.Counters.TheInside.{Inside}
use Rattle.cn_floor.specs.Lane.{FloorValue}
use Rattle.cn_floor.specs.Rule.{IsStart, start_of}
use Rattle.cn_floor.specs.Spread.{IsStride}
use Rattle.cn_floor.specs.Words.{word_count}

-- the shared words as contracts see them: which table they are, and what it began with
abbrev pub floor_of : Inside → FloorValue
floor_of c = record { table = c.table.shared.table_id; start = start_of c.table.shared.key }

-- there is a word for the lanes, and one for each entry, balancer and exit, a stride apart
pub record IsCounters (c : Inside) : Type 0 where
  pub words : c.table.shared.table_id.words ≡ c.stride * word_count (start_of c.table.shared.key).network.table
  pub apart : c.table.shared.key.stride ≡ c.stride
  pub stride : IsStride c.stride
  pub slots : c.table.shared.table_id.slots ≡ 0
  pub began : IsStart (start_of c.table.shared.key)
  pub entries : c.entries ≡ (start_of c.table.shared.key).network.table.entries
  pub balancers : c.balancers ≡ (start_of c.table.shared.key).network.table.balancers
