-- What many proofs of this crate import: they import it here.
pub use Rattle.std.proofs.Common.{Bool, IfOk, IsSorted, List, None, Some, [], ap, append_assoc, arith, cond, count_by, false, get_or, inl, inr, length, map, nat_eq, refl, rules, suc, sym, true, true≢false, vec_len, ℕ, ◌++◌, ◌+◌, ◌<◌, ◌∙◌, ◌∷◌, ◌≡◌, ◌≤◌, ◌⊎◌}
pub use Rattle.cn_names.specs.Grants.{IsRising, ListsByName, grants_in}
pub use Rattle.std.specs.Map.{keys_of, lookup, values_of}
pub use Rattle.std.proofs.lemmas.Bool.{cases_Bool, eq-eqb}
pub use Rattle.indexmap.specs.IndexMap.{get, insert_entry}
pub use Rattle.std.proofs.lemmas.Bool.Decides.{nat_tests}
pub use Rattle.std.proofs.lemmas.Map.Keys.{IsDistinct-head, IsDistinct-tail}
pub use Rattle.std.specs.List.{AllByRecursion, IsDistinct, list_any}
pub use Rattle.cn_names.specs.declared.standing.Standing.{Standing}
pub use Rattle.std.proofs.lemmas.List.Sorted.{length_permutation, ranks_by, sorted_far}
pub use Rattle.cn_names.specs.declared.standing.Standing.TheVariants.{Holds, Walking}
