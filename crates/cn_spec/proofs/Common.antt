-- What many proofs of this crate import: they import it here.
pub use Rattle.std.proofs.Common.{All, Bool, List, [], add-zero, ap, append_assoc, ap₂, arith, cond, drop, eqb, false, get_or, get_or-set_other, get_or-set_same, inl, inr, le_refl, length, length-append, length-drop, length-take-le, ltb, map, nat_eq, not, refl, replicate, set, slice_index, subst, subst₂, suc, sum_by, sym, take, true, zero, zero-add, ℕ, ◌%◌, ◌*◌, ◌++◌, ◌+◌, ◌-◌, ◌/◌, ◌<◌, ◌^◌, ◌↔◌, ◌∙◌, ◌∷◌, ◌≡◌, ◌≢◌, ◌≤◌, ◌⊎◌}
pub use Rattle.std.specs.List.{count_by, flat_map, range_with_len, sum}
pub use Rattle.cn_spec.specs.Step.{IsEachBelow, IsStep, counts_after, counts_of, half, name_of, names, names_at, share, shares, shares_after}
pub use Rattle.cn_spec.specs.Networks.{HasStepChains, IsRow, a_cochain, b_cochain, chain, entries_at, evens, interleave, layer, odds}
unfoldable pub use Rattle.cn_spec.specs.Networks.{bitonic, block, blocks, merge, periodic, tree}
pub use Rattle.std.proofs.lemmas.List.FromFn.{fill_by_all, get_or-map-range_with_len, length-map-range_with_len, map-range_with_len_more}
pub use Rattle.std.proofs.lemmas.List.Sums.{sum_by-append, sum_by-cons, sum_by-take-drop}
pub use Rattle.std.proofs.Math.Nat.{div-add-mod', div-div-eq-div-mul, div-eq_of_lt-le, div-lt_iff_lt-mul, div-mul-le_self, eq-or-lt_of_le, le-div_iff_mul-le, lt-div-mul-add, mod-add-div, mul_comm, pow-suc, pow-succ'}
pub use Rattle.std.proofs.lemmas.Bool.{cases_Bool, cases_eq, cases_lt, cases_order, eq-eqb, false_from_ne_true, le-ltb, lt-ltb, ne_eqb}
pub use Rattle.std.proofs.lemmas.Nat.{div-mul-add, mod-mul-add, mod_below, pow_below, pow_pos}
pub use Rattle.std.proofs.lemmas.List.Sorted.{IsPermutation-append_comm, IsPermutation-append_left, IsPermutation-append_right, IsPermutation-cons, IsPermutation-middle, IsPermutation-refl, IsPermutation-sym, IsPermutation-trans, sum_by-IsPermutation}
pub use Rattle.cn_spec.specs.Sums.{IsOnceBelow, once_below, one_more, when}
unfoldable pub use Rattle.cn_spec.specs.Sums.{sum_below, times, total_where}
pub use Rattle.std.proofs.lemmas.Bool.Decides.{nat_tests}
pub use Rattle.std.specs.List.Sorted.{IsPermutation}
