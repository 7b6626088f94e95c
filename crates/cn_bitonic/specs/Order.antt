-- The order in which the balancers of mergers and bitonic networks are made (Aspnes, Herlihy, Shavit, Counting
-- Networks, JACM 1994, section 3).
use Rattle.std.specs.Prelude.{ℕ, zero, suc, ◌^◌, List, take, drop}
use Rattle.std.specs.List.{range_with_len}
use Rattle.cn_spec.specs.Networks.{evens, odds}
use Rattle.cn_wiring.specs.Made.{layer_made}
use Rattle.cn_tables.specs.Plan.{Plan, entries_alone}

-- the merger of two rows of wires of a level: that of the even wires of x and the odd ones of x2, that of the others,
-- and the last layer
unfoldable pub merger_made : ℕ → Plan → List ℕ → List ℕ → Plan × List ℕ
merger_made zero d x x2 = layer_made d x x2
merger_made (suc level) d x x2 =
    let first = merger_made level d (evens x) (odds x2) in
    let second = merger_made level first.0 (odds x) (evens x2) in
    layer_made second.0 first.1 second.1

-- the bitonic network over a row of wires of a level: that over the first half, that over the second, and their merger
unfoldable pub bitonic_made : ℕ → Plan → List ℕ → Plan × List ℕ
bitonic_made zero d x = (d, x)
bitonic_made (suc level) d x =
    let first = bitonic_made level d (take (2 ^ level) x) in
    let second = bitonic_made level first.0 (drop (2 ^ level) x) in
    merger_made level second.0 first.1 second.1

-- the whole bitonic network of a level, over all entries of a new plan
abbrev pub bitonic_plan : ℕ → Plan × List ℕ
bitonic_plan level = bitonic_made level (entries_alone (2 ^ level)) (range_with_len 0 (2 ^ level))
