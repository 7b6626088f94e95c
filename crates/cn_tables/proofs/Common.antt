-- What many proofs of this crate import: they import it here.
pub use Rattle.std.proofs.Common.{Bool, List, None, Option, Some, [], add-zero, ap, arith, cond, eqb, false, get_or, get_or-set_other, get_or-set_same, inl, inr, length, length-set, ltb, map, refl, replicate, set, slice_index, subst, suc, sym, take, true, zero, zero-add, ℕ, ◌*◌, ◌+◌, ◌-◌, ◌<◌, ◌^◌, ◌↔◌, ◌∙◌, ◌∷◌, ◌≡◌, ◌≤◌, ◌⊎◌}
pub use Rattle.cn_tables.specs.Table.{HasDepth, IsFullFlow, IsWellFormed, LeadsOn, Stands, Table, balancer_of, end_of, is_end, plan_of_table, sum_at}
pub use Rattle.cn_tables.specs.declared.end.End.TheVariants.{Balancer, Exit}
pub use Rattle.cn_spec.specs.Sums.{Agree, when}
unfoldable pub use Rattle.cn_spec.specs.Sums.{sum_below, total_where}
pub use Rattle.std.proofs.lemmas.List.{get_or-map, get_or-replicate, get_or_past, get_or_read, length-map, length-replicate, length-take-le, take_more}
pub use Rattle.cn_tables.specs.declared.end.End.{End}
pub use Rattle.cn_spec.proofs.CallerLemmas.{half-sum, sum-below-change, sum-below-cut, sum-below-front, sum-below-none, sum-below-part, sum-below-pick, sum-below-same, sum-below-zero, total-where-agree, total-where-le, total-where-map, total-where-more, total-where-tests}
pub use Rattle.std.proofs.lemmas.Bool.{cases_eq, cases_lt, eqb-true, le-ltb, lt-ltb}
pub use Rattle.cn_tables.specs.Plan.{Feeds, HasLevel, IsFlow, IsOrderly, IsPath, Plan, ends_at, passages}
pub use Rattle.cn_tables.specs.Faults.{EndStandsAt, IsWithin, LeadsOnAt}
pub use Rattle.std.proofs.lemmas.Bool.Decides.{nat_tests}
pub use Rattle.cn_spec.specs.Step.{half}
