-- Counting networks (Aspnes, Herlihy, Shavit, Counting Networks, JACM 1994, section 2).
use Rattle.std.specs.Prelude.{ℕ, List, map}
use Rattle.std.specs.List.{range_with_len}
use Rattle.cn_spec.specs.Step.{IsStep}
use Rattle.cn_tables.specs.declared.end.End.TheVariants.{Exit}
use Rattle.cn_tables.specs.declared.kind.Kind.{Kind}
use Rattle.cn_tables.specs.Table.{Table, IsWellFormed, IsFullFlow, HasDepth, sum_at}

-- what f puts on the exits of the table, from exit 0 up
abbrev pub exit_flows : Table → (ℕ → ℕ) → List ℕ
exit_flows table f = map (λ i. sum_at table (Exit i) f) (range_with_len 0 table.width)

-- every full flow gives the exits counts with the step property (section 2.2)
abbrev pub Counts : Table → Type 0
Counts t = (f : ℕ → ℕ) → IsFullFlow t f → IsStep (exit_flows t f)

-- a counting network
pub record Network : Type 0 where
  pub table : Table
  pub kind : Kind
  pub depth : ℕ

-- what each counting network keeps
pub record IsNetwork (network : Network) : Type 0 where
  pub formed : IsWellFormed network.table
  pub counts : Counts network.table
  pub deep : HasDepth network.table network.depth
