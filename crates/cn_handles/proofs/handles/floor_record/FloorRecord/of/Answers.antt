use Rattle.cn_handles.proofs.Common.{◌+◌, ◌-◌, ℕ, List, ap, arith, length, slice_index}
use Rattle.std.proofs.lemmas.List.FromFn.{length-map-range_with_len}
use Rattle.cn_tables.specs.Table.{Table}
use Rattle.cn_handles.proofs.handles.floor_record.FloorRecord.of.Goals as goal

pub copy_from_slice-requires : goal.copy_from_slice-requires
copy_from_slice-requires c =
    let t : Table = c.args.quiet.start.network.table in
    let first : ℕ = 1 + t.entries + t.balancers in
    let count : ℕ → ℕ = λ i. slice_index c.args.quiet.words (first + i) - slice_index c.args.quiet.start.words (first + i) in
    omega (arith, c.requires.counts, ap (λ (xs : List ℕ). length xs) c.counts.ensures, length-map-range_with_len count 0 t.width)
