-- What many proofs of this crate import: they import it here.
pub use Rattle.std.proofs.Common.{Err, List, None, Ok, Option, Result, Some, [], add-zero, ap, append_assoc, arith, drop, eqb, false, get_or, get_or-set_other, get_or-set_same, inl, inr, length, length-append, length-set, lit≤, map, refl, replicate, rules, set, subst, suc, sum_by, sym, take, true, zero, zero-add, ℕ, ◌*◌, ◌++◌, ◌+◌, ◌<◌, ◌^◌, ◌∙◌, ◌∷◌, ◌≡◌, ◌≢◌, ◌≤◌, ◌⊎◌}
pub use Rattle.cn_tables.specs.Plan.{AllLoose, Builds, Each, HasLevel, IsFlow, IsOrderly, IsPath, Plan, ends_at, entries_alone, loose, next_wire, passages, with_balancer}
pub use Rattle.cn_spec.specs.Sums.{total_where, when}
unfoldable pub use Rattle.cn_spec.specs.Sums.{times}
pub use Rattle.std.proofs.lemmas.List.{drop_all, drop_more, ext_get_or, get_or-map, get_or-replicate, get_or_default, get_or_past, length-map, length-replicate, length-take-le, map-append, map-set, map_more, set-get_or, take-append-drop, take_all, take_more}
pub use Rattle.cn_spec.proofs.CallerLemmas.{layer-push, times-append, times-inside, times-member, times-outside, times-place, times-two, total-where-none, total-where-one, total-where-parts, total-where-push, total-where-set}
pub use Rattle.std.proofs.lemmas.Bool.{cases_Bool, cases_eq, cases_lt, eq-eqb, eqb-true, ne_eqb}
pub use Rattle.cn_tables.specs.Table.{EndsInOrder, HasDepth, IsFullFlow, IsWellFormed, LeadsOn, Stands, Table, balancer_of, end_of, is_end, plan_of_table, sum_at}
pub use Rattle.cn_spec.specs.declared.limits.TheConstants.{MOST_BALANCERS, MOST_ENDS, MOST_LEVEL}
pub use Rattle.cn_tables.proofs.CallerLemmas.{flow-exists, flow-plan, flow-unique, from-balancer, into-passages, path-levels, paths}
pub use Rattle.cn_spec.specs.Step.{IsStep, half}
pub use Rattle.std.specs.List.{range_with_len}
pub use Rattle.cn_tables.specs.declared.end.End.TheVariants.{Balancer, Exit}
pub use Rattle.cn_spec.specs.Networks.{IsRow, layer}
pub use Rattle.cn_wiring.specs.Made.{IsTableOf}
unfoldable pub use Rattle.cn_wiring.specs.Made.{with_layer}
pub use Rattle.cn_wiring.specs.InsideDraft.{plan_of}
pub use Rattle.std.specs.Option.{is_none}
pub use Rattle.cn_tables.specs.declared.end.End.{End}
pub use Rattle.std.proofs.lemmas.List.FromFn.{fill_by_all, length-range_with_len}
pub use Rattle.std.proofs.lemmas.Bool.Decides.{nat_tests}
pub use Rattle.std.proofs.lemmas.List.Sums.{sum_by-cons}
pub use Rattle.std.proofs.lemmas.Nat.{pow_below, pow_pos}
pub use Rattle.cn_tables.specs.Widths.{IsWidth, IsWidthOf}
