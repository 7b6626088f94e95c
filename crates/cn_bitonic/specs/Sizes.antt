-- How large the bitonic network over 2 ^ level wires is (Aspnes, Herlihy, Shavit, Counting Networks, JACM 1994,
-- section 3).
use Rattle.std.specs.Prelude.{ℕ, ◌+◌, ◌*◌, ◌/◌, ◌^◌}

-- the depth of the bitonic network: 1 + 2 + .. + level
abbrev pub bitonic_depth : ℕ → ℕ
bitonic_depth level = level * (level + 1) / 2

-- the balancers of the bitonic network: one for each two wires, depth times
abbrev pub bitonic_balancers : ℕ → ℕ
bitonic_balancers level = 2 ^ level / 2 * bitonic_depth level
