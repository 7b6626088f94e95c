-- What many proofs of this crate import: they import it here.

pub use Rattle.std.proofs.lemmas.Bool.{cases_Bool, cases_eq, cases_lt, eq-eqb, ne_eqb}
pub use Rattle.std.proofs.lemmas.Bool.Decides.{nat_tests}
pub use Rattle.std.specs.Map.{lookup, set_value, values_of}
pub use Rattle.std.specs.Prelude.{IsSome, IsTrue, count_by, position, replicate, sum_by, ◌==◌, ◌↔◌}
pub use Rattle.cn_spec.proofs.CallerLemmas.{sum-below-next, sum-below-one, sum-below-part, sum-below-parts, sum-below-pick, sum-below-same, sum-below-shift, sum-below-zero, times-append, times-cons, times-nil}
pub use Rattle.cn_spec.specs.Sums.{times, when}
unfoldable pub use Rattle.cn_spec.specs.Sums.{sum_below}
pub use Rattle.cn_yard.specs.Chains.{but, head_or, last_of, moved, put_last}
unfoldable pub use Rattle.cn_yard.specs.Chains.{Chain, last_or, walk}
pub use Rattle.cn_yard.specs.InsideYard.{IsBare, Keeps, lists_of, walked, with_clients, yard_of}
unfoldable pub use Rattle.cn_yard.specs.InsideYard.{IsYard}
pub use Rattle.cn_yard.specs.Lines.{Ends, IsOff, IsOn, Linked, OffLine, count_of, line_of, line_with, line_without, no_line}
pub use Rattle.cn_yard.specs.Lists.{Admits, IsLowest, IsThere, Lists, Moves, Releases, Yard, empty, first_of, here_or, last_on, on, standing, times_in, tokens_in, without}
unfoldable pub use Rattle.cn_yard.specs.Lists.{next_after, standing_below}
pub use Rattle.cn_yard.specs.Marks.{marked}
pub use Rattle.cn_yard.specs.Records.{IsClient, IsLink, IsPut, client_of, next_of, no_record, prev_of, wire_of}
pub use Rattle.cn_yard.specs.declared.lines.Line.{Line}
pub use Rattle.cn_yard.specs.declared.records.Record.{Record}
pub use Rattle.cn_yard.specs.declared.yard.Yard.TheInside.{Inside}
pub use Rattle.std.proofs.Common.{Bool, Global, List, None, Option, Some, Vec, [], add-zero, ap, append-nil, arith, cond, drop, eqb, false, get_or, inl, inr, length, ltb, max, nat_eq, not, refl, rules, set, subst, suc, sym, take, true, vec_capacity, vec_len, w64, zero, ℕ, ◌%◌, ◌&&◌, ◌*◌, ◌++◌, ◌+◌, ◌-◌, ◌/◌, ◌<◌, ◌^◌, ◌||◌, ◌∙◌, ◌∷◌, ◌≡◌, ◌≢◌, ◌≤◌, ◌⊎◌}
pub use Rattle.std.proofs.lemmas.List.{append_assoc, ext_get_or, get_or-drop, get_or-replicate, get_or-set_other, get_or-set_same, get_or_append_left, get_or_past, get_or_read, length-append, length-drop, length-map, length-replicate, length-set, length_push, map-append, nil_from_length, take_all, take_at, with_items_is}
pub use Rattle.cn_yard.specs.Moving.{Fills, HasMarks, IsAdded, IsLined, IsLinks, IsMore, IsMove, SameBut}
pub use Rattle.std.specs.List.{range_with_len}
pub use Rattle.std.proofs.lemmas.Nat.Bits.{bit_at-trailing_zeros, bit_at-zero, bit_at_clear_other, bit_at_clear_same, bit_at_set_other, bit_at_set_same}
pub use Rattle.cn_spec.specs.declared.limits.TheConstants.{MOST_TOKENS}
pub use Rattle.std.proofs.lemmas.List.Sums.{sum_by-append, sum_by-cons}
pub use Rattle.cn_yard.specs.Deals.{IsDealt, out_of}
unfoldable pub use Rattle.cn_yard.specs.Deals.{Deals, every_second}
pub use Rattle.std.proofs.lemmas.List.FromFn.{get_or-map-range_with_len, length-range_with_len}
pub use Rattle.std.specs.Int.{bit_at, trailing_zeros}
pub use Rattle.std.specs.Vec.{with_items}
