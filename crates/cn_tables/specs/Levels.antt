-- The levels of wires: their depths (Aspnes, Herlihy, Shavit, Counting Networks, JACM 1994, section 2.1).
use Rattle.std.specs.Prelude.{◌≡◌, ℕ, ◌+◌, ◌<◌, length}
use Rattle.cn_tables.specs.declared.end.End.TheVariants.{Balancer, Exit}
use Rattle.cn_tables.specs.Plan.{HasLevel}
use Rattle.cn_tables.specs.Table.{Table, end_of, output_wire, plan_of_table}

-- a level for each wire: 0 for an entry, one more past each balancer, and n for the wire of each exit
pub record IsLevel (t : Table) (n : ℕ) (level : ℕ → ℕ) : Type 0 where
  pub entry : (u : ℕ) → u < t.entries → level u ≡ 0
  pub output : (u b p : ℕ) → u < length t.ends → end_of t u ≡ Balancer b → p < 2
      → level (output_wire t b p) ≡ level u + 1
  pub exit : (u i : ℕ) → u < length t.ends → end_of t u ≡ Exit i → level u ≡ n

-- each path to a wire passes as many balancers as its level
abbrev pub CountsPaths : Table → (ℕ → ℕ) → Type 0
CountsPaths t level = (u : ℕ) → u < length t.ends → HasLevel (plan_of_table t) (level u) u
