-- What many proofs of this crate import: they import it here.
pub use Rattle.std.proofs.Common.{Bool, List, [], add-zero, ap, arith, cond, eqb, false, get_or, inl, inr, length, map, refl, subst, suc, sum_by, sym, true, zero, ℕ, ◌%◌, ◌&&◌, ◌*◌, ◌+◌, ◌-◌, ◌/◌, ◌<◌, ◌∙◌, ◌∷◌, ◌≡◌, ◌≢◌, ◌≤◌}
pub use Rattle.cn_tables.specs.Table.{IsFullFlow, IsWellFormed, Stands, Table, end_of, is_end, output_wire, sum_at}
pub use Rattle.cn_ledger.specs.Ledger.{IsBounded, IsQuiescent, IsSound, IsTight, Ledger, all_entered, empty_ledger, put, times_given}
pub use Rattle.std.proofs.lemmas.Bool.Decides.{nat_tests}
pub use Rattle.cn_tables.specs.declared.end.End.TheVariants.{Balancer, Exit}
pub use Rattle.cn_spec.specs.Sums.{Agree, once_below, when}
unfoldable pub use Rattle.cn_spec.specs.Sums.{sum_below, total_where}
pub use Rattle.cn_spec.proofs.CallerLemmas.{each_below, exit_of-name_of, get-or-shares, half-mono, half-sum, name-below, name_of-exit_of, once-next, row_is-shares, share-next, share-stays, sum-below-part, sum-below-pick, sum-below-plus, sum-below-same, sum-below-zero, sum-by-same, times-map, total-where-agree, total-where-mono, total-where-shift, total-where-zero}
pub use Rattle.cn_spec.specs.Step.{IsEachBelow, half, name_of, share, shares}
pub use Rattle.cn_tables.specs.declared.end.End.{End}
pub use Rattle.std.proofs.lemmas.Bool.{cases_Bool, cases_eq, cases_lt, eq-eqb, eqb-true, le-ltb, lt-ltb, ne_eqb}
pub use Rattle.cn_ledger.specs.Events.{Enters, Goes, Leaves, Passes, one_at}
pub use Rattle.cn_tables.proofs.CallerLemmas.{count-twice, full-flow-exists, full-flow-few, full-flow-sum, full-flow-unique, older}
pub use Rattle.std.proofs.lemmas.Nat.{mod_below}
pub use Rattle.cn_tables.specs.Network.{Counts}
