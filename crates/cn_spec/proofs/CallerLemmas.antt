-- What proofs of other crates cite of this one. They cite nothing else of proofs/.

-- sums and counts
pub use Rattle.cn_spec.proofs.Sums.{one_more-at, sum-below-change, sum-below-cut, sum-below-fewer, sum-below-front, sum-below-le, sum-below-next, sum-below-none, sum-below-one, sum-below-part, sum-below-parts, sum-below-pick, sum-below-plus, sum-below-same, sum-below-shift, sum-below-total, sum-below-zero, sum-by-same, total-where-agree, total-where-le, total-where-map, total-where-mono, total-where-more, total-where-none, total-where-one, total-where-parts, total-where-push, total-where-set, total-where-shift, total-where-tests, total-where-zero, zero_at}
pub use Rattle.cn_spec.proofs.Times.{all_below, at_most_once, each_below, once-in, once-next, once-there, once_each, order-times, times-append, times-below, times-cons, times-inside, times-map, times-member, times-nil, times-order, times-outside, times-place, times-two}
-- ranges, shares and names
pub use Rattle.cn_spec.proofs.Names.{counts-shares, counts-shares-after, exit_of-name_of, first-shares, name-below, name_of-exit_of, range_more, share-next, share-stays}
pub use Rattle.cn_spec.proofs.Shares.{get-or-shares, row_is-shares, tree-turn, tree-zero}
-- rows, and what networks make of them
pub use Rattle.cn_spec.proofs.Rows.{a_row, b-row, back-row, evens-row, front-row, half-mono, half-row, half-sum, half_pow, layer-push, length-interleave, odds-row, power_below, same-level, shorter}
pub use Rattle.cn_spec.proofs.Flows.{map-a_cochain, map-b_cochain, map-evens, map-interleave, map-odds, times-cochains, times-evens-odds, times-interleave}
