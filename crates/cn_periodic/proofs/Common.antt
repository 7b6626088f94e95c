-- What many proofs of this crate import: they import it here.
pub use Rattle.std.proofs.Common.{List, ap, arith, length, lit≤, map, refl, rules, subst, suc, sym, zero, ℕ, ◌*◌, ◌++◌, ◌+◌, ◌-◌, ◌/◌, ◌<◌, ◌^◌, ◌∙◌, ◌≡◌, ◌≤◌}
pub use Rattle.cn_wiring.proofs.CallerLemmas.{Builds-beside, Builds-like, Builds-loose, Builds-same, Builds-sized, Builds-then, Drawn, all_ok, drawn, drawn-built, drawn-counts, entries-row, flows-row, outputs-count}
pub use Rattle.cn_periodic.specs.Sizes.{block_balancers, periodic_balancers, periodic_depth}
pub use Rattle.std.proofs.Math.Nat.{mul-le-mul, mul-le-mul_right, pow-suc, pow-succ'}
pub use Rattle.cn_spec.specs.declared.limits.TheConstants.{MOST_BALANCERS, MOST_LEVEL}
pub use Rattle.cn_tables.specs.Plan.{AllLoose, Builds, IsFlow, Plan, next_wire}
pub use Rattle.cn_periodic.specs.Order.{periodic_plan}
unfoldable pub use Rattle.cn_periodic.specs.Order.{block_made, series_made}
pub use Rattle.cn_periodic.specs.Parts.{BuildsBlock, BuildsPeriodic}
pub use Rattle.std.specs.List.{range_with_len}
pub use Rattle.cn_spec.specs.Networks.{IsRow, a_cochain, b_cochain, layer}
unfoldable pub use Rattle.cn_spec.specs.Networks.{block, blocks, periodic}
pub use Rattle.cn_spec.proofs.CallerLemmas.{a_row, b-row, half_pow, map-a_cochain, map-b_cochain, same-level, shorter, times-append, times-cochains}
