-- A network by its kind and width.
use Rattle.std.specs.Prelude.{ℕ, ◌≡◌, ◌-◌, ◌^◌, List}
use Rattle.cn_tables.specs.declared.kind.Kind.{Kind}
use Rattle.cn_tables.specs.declared.kind.Kind.TheVariants.{Bitonic, Periodic, Tree}
use Rattle.cn_wiring.specs.Built.{IsBuilt}
use Rattle.cn_wiring.specs.Made.{IsTableOf}
use Rattle.cn_tables.specs.Network.{Network}
use Rattle.cn_tables.specs.Plan.{Plan}
use Rattle.cn_bitonic.specs.Order.{bitonic_plan}
use Rattle.cn_bitonic.specs.Sizes as bitonic
use Rattle.cn_periodic.specs.Order.{periodic_plan}
use Rattle.cn_periodic.specs.Sizes as periodic
use Rattle.cn_tree.specs.Order.{tree_plan}

-- what a network is known by
pub record Description : Type 0 where
  pub kind : Kind
  pub width : ℕ

-- how many entries a network of this width has
abbrev pub entries_of : Kind → ℕ → ℕ
entries_of Bitonic width = width
entries_of Periodic width = width
entries_of Tree width = 1

-- how many balancers a network has whose width is 2 ^ level
abbrev pub size_of : Kind → ℕ → ℕ → ℕ
size_of Bitonic width level = bitonic.bitonic_balancers level
size_of Periodic width level = periodic.periodic_balancers level
size_of Tree width level = width - 1

-- and how many balancers each of its paths passes
abbrev pub levels_of : Kind → ℕ → ℕ
levels_of Bitonic level = bitonic.bitonic_depth level
levels_of Periodic level = periodic.periodic_depth level
levels_of Tree level = level

-- its plan, balancer by balancer, and the wires that end at its exits, in order
abbrev pub plan_of_kind : Kind → ℕ → Plan × List ℕ
plan_of_kind Bitonic level = bitonic_plan level
plan_of_kind Periodic level = periodic_plan level
plan_of_kind Tree level = tree_plan level

-- the counting network of this kind and width: of its sizes, and wire by wire that of its recursion
abbrev pub IsNetworkOf : Description → Network → Type 0
IsNetworkOf net network =
    (level : ℕ) × (net.width ≡ 2 ^ level)
    × IsBuilt network net.kind (entries_of net.kind net.width) net.width
    (size_of net.kind net.width level) (levels_of net.kind level)
    × IsTableOf network.table (plan_of_kind net.kind level)
