-- What the parts of the periodic network do to a plan (Aspnes, Herlihy, Shavit, Counting Networks, JACM 1994,
-- section 4).
use Rattle.std.specs.Prelude.{◌≡◌, ℕ, ◌+◌, ◌-◌, ◌*◌, ◌/◌, ◌^◌, List, map}
use Rattle.std.specs.List.{range_with_len}
use Rattle.cn_spec.specs.Networks.{IsRow, block, periodic}
use Rattle.cn_tables.specs.Plan.{Plan, IsFlow, Builds}
use Rattle.cn_periodic.specs.Sizes.{periodic_balancers, block_balancers, periodic_depth}

-- the block over a row of wires of a level from 1 upward, x, with the outputs y
pub record BuildsBlock (old new : Plan) (x y : List ℕ) (level : ℕ) : Type 0 where
  -- it has level layers of one balancer for each two wires
  pub built : Builds old new x y level (block_balancers level)
  -- its outputs are the newest wires, in order
  pub wires : y ≡ range_with_len (old.entries + 2 * (old.balancers + 2 ^ level / 2 * (level - 1))) (2 ^ level)
  -- in each flow, the outputs have the counts that a block makes of those of x
  pub flow : (f : ℕ → ℕ) → IsFlow new f → map f y ≡ block level (map f x)

-- the periodic network over a row of wires of a level, x, with the outputs y
pub record BuildsPeriodic (old new : Plan) (x y : List ℕ) (level : ℕ) : Type 0 where
  pub built : Builds old new x y (periodic_depth level) (periodic_balancers level)
  pub row : IsRow level y
  -- in each flow, the outputs have the counts that a periodic network makes of those of x
  pub flow : (f : ℕ → ℕ) → IsFlow new f → map f y ≡ periodic level (map f x)
