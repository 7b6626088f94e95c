-- The order in which the balancers of blocks and periodic networks are made (Aspnes, Herlihy, Shavit, Counting
-- Networks, JACM 1994, section 4).
use Rattle.std.specs.Prelude.{ℕ, zero, suc, ◌^◌, List}
use Rattle.std.specs.List.{range_with_len}
use Rattle.cn_spec.specs.Networks.{a_cochain, b_cochain}
use Rattle.cn_wiring.specs.Made.{layer_made}
use Rattle.cn_tables.specs.Plan.{Plan, entries_alone}

-- the block over a row of wires of a level: that over the A-cochain, that over the B-cochain, and the last layer
unfoldable pub block_made : ℕ → Plan → List ℕ → Plan × List ℕ
block_made zero d x = (d, x)
block_made (suc level) d x =
    let first = block_made level d (a_cochain x) in
    let second = block_made level first.0 (b_cochain x) in
    layer_made second.0 first.1 second.1

-- n blocks in series over a row of wires of a level: the first over the row, each later one over the outputs before it
unfoldable pub series_made : ℕ → ℕ → Plan → List ℕ → Plan × List ℕ
series_made zero level d x = (d, x)
series_made (suc n) level d x =
    let first = block_made level d x in
    series_made n level first.0 first.1

-- the whole periodic network of a level: as many blocks, over all entries of a new plan
abbrev pub periodic_plan : ℕ → Plan × List ℕ
periodic_plan level = series_made level level (entries_alone (2 ^ level)) (range_with_len 0 (2 ^ level))
