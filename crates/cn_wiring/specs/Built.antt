-- What the builders of counting networks make.
use Rattle.std.specs.Prelude.{◌≡◌, ℕ}
use Rattle.cn_tables.specs.declared.kind.Kind.{Kind}
use Rattle.cn_tables.specs.Network.{Network, IsNetwork}

-- a counting network of this kind and these sizes
pub record IsBuilt (network : Network) (its_kind : Kind) (ins outs size levels : ℕ) : Type 0 where
  pub kind : network.kind ≡ its_kind
  pub entries : network.table.entries ≡ ins
  pub width : network.table.width ≡ outs
  pub balancers : network.table.balancers ≡ size
  pub depth : network.depth ≡ levels
  pub counts : IsNetwork network
