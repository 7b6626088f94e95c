-- How large a block and the periodic network over 2 ^ level wires are (Aspnes, Herlihy, Shavit, Counting Networks, JACM
-- 1994, section 4).
use Rattle.std.specs.Prelude.{ℕ, ◌*◌, ◌/◌, ◌^◌}

-- the balancers of a block, whose depth is the level: one for each two wires, level times
abbrev pub block_balancers : ℕ → ℕ
block_balancers level = 2 ^ level / 2 * level

-- the depth of the periodic network: level blocks
abbrev pub periodic_depth : ℕ → ℕ
periodic_depth level = level * level

-- the balancers of the periodic network: one for each two wires, depth times
abbrev pub periodic_balancers : ℕ → ℕ
periodic_balancers level = 2 ^ level / 2 * periodic_depth level
