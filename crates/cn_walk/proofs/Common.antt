-- What many proofs of this crate import: they import it here.
pub use Rattle.std.proofs.Common.{All, IfSome, List, None, Option, Some, [], add-one, ap, append-nil, ap₂, arith, cond, eqb, get_or, inl, inr, length, length-append, map, max, min, refl, rules, subst, suc, sum_by, sym, take, zero, ℕ, ◌%◌, ◌*◌, ◌++◌, ◌+◌, ◌-◌, ◌/◌, ◌<◌, ◌∙◌, ◌∷◌, ◌≡◌, ◌≤◌}
pub use Rattle.cn_walk.specs.Walks.{AreFor, AreInOrder, GrantsInOrder, IsSole, Walks, WalksAll, inside_by}
pub use Rattle.cn_floor.specs.Lane.{FloorValue, IsIdle, LaneValue, LetsIn, empty_lane, with_rooms}
pub use Rattle.cn_ledger.specs.declared.client.Client.{Client}
pub use Rattle.cn_yard.specs.Lists.{IsThere, Lists, Yard, last_on, on, standing, times_in, tokens_in, without}
pub use Rattle.cn_floor.proofs.CallerLemmas.{Lands, MayGo, at-none, at-one, count-word, ending-at, goes-there, grants-kept, grants-left, inside-yard, kin-by, lowest-inside, map-same, nobody-in, nobody-there, none-came, none-counted, none-entered, none-on, ones, rest-may, some-inside, weigh-come, weigh-leave, weigh-pass, weighed-went}
pub use Rattle.cn_walk.specs.Parts.{AreOf, AreReady, HasNothing, IsOne, IsPair, IsReady, SpareAtMost, first_position, together, whole}
pub use Rattle.std.proofs.lemmas.List.{append_assoc, get_or_default, length-map, map-append, take_all, take_more}
pub use Rattle.cn_floor.specs.declared.view.Grant.{Grant}
pub use Rattle.cn_floor.specs.declared.view.View.{View}
pub use Rattle.cn_tables.specs.Table.{IsWellFormed, LeadsOn, Stands, Table, end_of, output_wire, sum_at}
pub use Rattle.cn_floor.specs.Views.{after_enter, after_look, after_split, after_step, base, on_in, split_off}
pub use Rattle.cn_spec.specs.Step.{IsEachBelow, name_of, shares_after}
pub use Rattle.cn_spec.specs.Sums.{Agree, sum_below, times, when}
pub use Rattle.cn_spec.proofs.CallerLemmas.{first-shares, once-next, once_each, sum-below-one, sum-below-plus, sum-below-same, sum-below-shift, sum-below-zero, times-append, times-cons, times-nil}
pub use Rattle.cn_floor.specs.declared.view.Start.{Start}
pub use Rattle.std.proofs.lemmas.Nat.{div-mul-add, le-div, mod_below}
pub use Rattle.std.proofs.lemmas.List.Sums.{sum_by-append, sum_by-cons}
pub use Rattle.cn_walk.specs.declared.forking.Lanes.{Lanes}
pub use Rattle.cn_tables.specs.declared.end.End.TheVariants.{Balancer, Exit}
pub use Rattle.cn_floor.specs.Carried.{WordsValue, client_count, words_before, zero_words}
pub use Rattle.cn_walk.specs.Runs.{IsRun, IsRunAfter}
pub use Rattle.std.specs.Prelude.{IfOk}
pub use Rattle.cn_floor.specs.Named.{IsNamed}
pub use Rattle.std.proofs.Math.Nat.{div-le_of_le-mul, div-mul-le_self, mul-le-mul, mul-le-mul_right}
pub use Rattle.cn_floor.specs.Closing.{IsCloseRefused, IsMissing}
pub use Rattle.cn_tables.specs.declared.end.End.{End}
pub use Rattle.std.proofs.lemmas.List.Elements.{All-drop, All-more}
