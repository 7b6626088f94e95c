-- What many proofs of this crate import: they import it here.
pub use Rattle.std.proofs.lemmas.Bool.{cases_eq, cases_lt, eq-eqb, ne_eqb}
pub use Rattle.std.proofs.lemmas.List.{append_assoc, ext_get_or, get_or-append-add, get_or-map, get_or_append_left, get_or_past, length-map, length-replicate, length_push, map-append, map-set, nil_from_length, replicate-append-replicate, take_more}
pub use Rattle.std.proofs.lemmas.List.FromFn.{get_or-map-range_with_len, length-map-range_with_len}
pub use Rattle.std.proofs.lemmas.List.Sums.{sum_by-append, sum_by-cons}
pub use Rattle.cn_spec.proofs.CallerLemmas.{at_most_once, once_each, order-times, sum-below-one, sum-below-part, sum-below-same, times-append, times-cons, times-map, times-nil}
pub use Rattle.cn_spec.specs.Step.{name_of}
pub use Rattle.cn_spec.specs.Sums.{when}
unfoldable pub use Rattle.cn_spec.specs.Sums.{times}
pub use Rattle.cn_tables.specs.Network.{IsNetwork, Network}
pub use Rattle.cn_tables.specs.Table.{IsWellFormed, LeadsOn, Stands, Table, end_of, output_wire}
pub use Rattle.cn_tables.specs.declared.end.End.{End}
pub use Rattle.cn_tables.specs.declared.end.End.TheVariants.{Balancer, Exit}
pub use Rattle.cn_yard.specs.Lists.{Lists, last_on, on, times_in, tokens_in, without}
pub use Rattle.cn_floor.specs.InsideLane.{lane_of}
pub use Rattle.cn_floor.specs.Lane.{FloorValue, LaneValue}
pub use Rattle.cn_floor.specs.Rule.{IsStart}
pub use Rattle.cn_floor.specs.Steps.{IsAtomicStep, StoodInState}
pub use Rattle.cn_floor.specs.Sweeps.{AreLetBy, GoTogether, after_sweep}
unfoldable pub use Rattle.cn_floor.specs.Sweeps.{SweptBy, after_steps, grants_out}
pub use Rattle.cn_floor.specs.Views.{after_enter, after_step, base}
pub use Rattle.cn_floor.specs.declared.view.Grant.{Grant}
pub use Rattle.cn_floor.specs.declared.view.Start.{Start}
pub use Rattle.cn_floor.specs.declared.view.View.{View}
pub use Rattle.std.proofs.Common.{List, [], ap, append-nil, arith, cond, count_by, eqb, get_or, inl, inr, length, length-append, map, refl, replicate, rules, subst, suc, sum_by, sym, take, vec_capacity, zero, ℕ, ◌%◌, ◌*◌, ◌++◌, ◌+◌, ◌-◌, ◌/◌, ◌<◌, ◌==◌, ◌^◌, ◌∙◌, ◌∷◌, ◌≡◌, ◌≢◌, ◌≤◌, ◌⊎◌}
pub use Rattle.cn_lists.specs.Listed.{AreNamesBy, AreNoted, AreTheirs, CameIn, HaveLeft, HaveWalked, ListFrame, WalkTogether, by_one_entry, gone_too}
unfoldable pub use Rattle.cn_lists.specs.Listed.{placed}
pub use Rattle.cn_floor.proofs.CallerLemmas.{IsKin, MayGo, all-empty, grants-kept, grants-left, grants-many, grants-next, kin-by, lists-after-on, made-beyond, made_at, names-low, no-levels, nobody-in, nobody-there, rest-may, some-inside, state-after}
unfoldable pub use Rattle.cn_yard.specs.Deals.{every_second}
pub use Rattle.std.specs.Prelude.{Bool, IsPermutation, false, slice_index}
pub use Rattle.cn_floor.specs.EntersAll.{ComeTogether, EnterInTurn, after_enter_all}
unfoldable pub use Rattle.cn_floor.specs.EntersAll.{after_enters}
pub use Rattle.std.proofs.Math.Nat.{mul-le-mul_left}
pub use Rattle.std.proofs.Math.Seq.{take-length}
pub use Rattle.cn_yard.proofs.CallerLemmas.{others-on}
pub use Rattle.cn_lists.specs.Taking.{AreWritten, TakerValue}
