-- What many proofs of this crate import: they import it here.
pub use Rattle.std.proofs.Common.{List, ap, arith, drop, length, lit≤, map, refl, rules, subst, suc, sym, take, zero, ℕ, ◌*◌, ◌++◌, ◌+◌, ◌/◌, ◌<◌, ◌^◌, ◌∙◌, ◌≡◌, ◌≤◌}
pub use Rattle.cn_wiring.proofs.CallerLemmas.{Builds-beside, Builds-like, Builds-loose, Builds-same, Builds-sized, Builds-then, Drawn, all_ok, drawn, drawn-built, drawn-counts, entries-row, flows-row, outputs-count}
pub use Rattle.std.proofs.Math.Nat.{mul-le-mul, pow-suc, pow-succ'}
pub use Rattle.cn_spec.specs.declared.limits.TheConstants.{MOST_BALANCERS, MOST_LEVEL}
pub use Rattle.cn_spec.proofs.CallerLemmas.{back-row, evens-row, front-row, half-row, half_pow, map-evens, map-odds, odds-row, same-level, shorter, times-append, times-evens-odds}
pub use Rattle.cn_tables.specs.Plan.{AllLoose, Builds, IsFlow, Plan, next_wire}
pub use Rattle.cn_bitonic.specs.Order.{bitonic_plan}
unfoldable pub use Rattle.cn_bitonic.specs.Order.{bitonic_made, merger_made}
pub use Rattle.cn_bitonic.specs.Sizes.{bitonic_balancers, bitonic_depth}
pub use Rattle.cn_spec.specs.Networks.{IsRow, evens, layer, odds}
unfoldable pub use Rattle.cn_spec.specs.Networks.{bitonic, merge}
pub use Rattle.cn_bitonic.specs.Parts.{BuildsBitonic, BuildsMerger}
pub use Rattle.std.specs.List.{range_with_len}
