-- What a wiring holds.
use Rattle.cn_tables.specs.declared.wiring.Wiring.TheInside.{Inside}
use Rattle.cn_tables.specs.Table.{Table}

-- the table that a wiring holds
abbrev pub table_of : Inside → Table
table_of w = record { entries = w.entries; width = w.width; balancers = w.balancers; ends = w.ends.items }
