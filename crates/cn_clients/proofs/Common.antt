-- What many proofs of this crate import: they import it here.
pub use Rattle.std.proofs.Common.{All, List, [], ap, append-nil, append_assoc, arith, get_or, inl, inr, length, map, refl, replicate, rules, subst, sym, take, ℕ, ◌++◌, ◌+◌, ◌<◌, ◌∙◌, ◌∷◌, ◌≡◌, ◌≤◌}
pub use Rattle.std.proofs.lemmas.List.{get_or-append-add, get_or-map, get_or-replicate, get_or_past, length-append, length-map, length-replicate, map-append, take_all, take_more}
pub use Rattle.cn_yard.specs.Lists.{Lists, Yard, empty, on, tokens_in}
pub use Rattle.cn_floor.specs.Lane.{LaneValue}
pub use Rattle.cn_clients.specs.Naming.{GaveNames, names_granted}
pub use Rattle.cn_clients.specs.Slots.{FilledBy, given, names_of, written}
pub use Rattle.cn_spec.proofs.CallerLemmas.{sum-below-zero, times-append}
pub use Rattle.cn_floor.specs.declared.view.Grant.{Grant}
pub use Rattle.cn_floor.specs.Named.{IsNamed}
pub use Rattle.cn_clients.specs.declared.filled.Filled.{Filled}
pub use Rattle.cn_spec.specs.Sums.{times}
