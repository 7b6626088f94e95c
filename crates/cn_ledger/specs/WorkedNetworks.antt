-- Small networks, for worked ledgers and histories.
use Rattle.std.specs.Prelude.{[], ◌∷◌}
use Rattle.cn_tables.specs.declared.end.End.TheVariants.{Balancer, Exit}
use Rattle.cn_tables.specs.Table.{Table}

-- two entries, one balancer, two exits
abbrev pub two_wide : Table
two_wide = record { entries = 2; width = 2; balancers = 1; ends = Balancer 0 ∷ Balancer 0 ∷ Exit 0 ∷ Exit 1 ∷ [] }

-- the counting tree with four exits (Shavit, Zemach, Diffracting Trees, TOCS 1996, section 2)
abbrev pub tree_of_four : Table
tree_of_four = record {
  entries = 1;
  width = 4;
  balancers = 3;
  ends = Balancer 0 ∷ Balancer 1 ∷ Balancer 2 ∷ Exit 0 ∷ Exit 2 ∷ Exit 1 ∷ Exit 3 ∷ [];
}
