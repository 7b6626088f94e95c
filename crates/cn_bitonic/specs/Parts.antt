-- What the parts of the bitonic network do to a plan (Aspnes, Herlihy, Shavit, Counting Networks, JACM 1994,
-- section 3).
use Rattle.std.specs.Prelude.{◌≡◌, ℕ, ◌+◌, ◌*◌, ◌^◌, List, ◌++◌, map}
use Rattle.std.specs.List.{range_with_len}
use Rattle.cn_spec.specs.Networks.{IsRow, bitonic, merge}
use Rattle.cn_tables.specs.Plan.{Plan, IsFlow, Builds}
use Rattle.cn_bitonic.specs.Sizes.{bitonic_balancers, bitonic_depth}

-- the merger of two rows of wires of a level, x and x2, with the outputs y
pub record BuildsMerger (old new : Plan) (x x2 y : List ℕ) (level : ℕ) : Type 0 where
  -- it has level + 1 layers of 2 ^ level balancers
  pub built : Builds old new (x ++ x2) y (level + 1) ((level + 1) * 2 ^ level)
  -- its outputs are the newest wires, in order
  pub wires : y ≡ range_with_len (old.entries + 2 * (old.balancers + level * 2 ^ level)) (2 * 2 ^ level)
  -- in each flow, the outputs have the counts that a merger makes of those of x and x2
  pub flow : (f : ℕ → ℕ) → IsFlow new f → map f y ≡ merge level (map f x) (map f x2)

-- the bitonic network over a row of wires of a level, x, with the outputs y
pub record BuildsBitonic (old new : Plan) (x y : List ℕ) (level : ℕ) : Type 0 where
  pub built : Builds old new x y (bitonic_depth level) (bitonic_balancers level)
  pub row : IsRow level y
  -- in each flow, the outputs have the counts that a bitonic network makes of those of x
  pub flow : (f : ℕ → ℕ) → IsFlow new f → map f y ≡ bitonic level (map f x)
