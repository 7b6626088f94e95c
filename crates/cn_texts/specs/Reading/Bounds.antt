-- Within what a batch and a list of grants keep.
use Rattle.std.specs.Prelude.{ℕ, ◌<◌, ◌≤◌, Bool, if◌then◌else◌}
use Rattle.cn_spec.specs.declared.limits.TheConstants.{MOST_CLIENTS, MOST_NAMED, MOST_RECORDS}
use Rattle.cn_texts.specs.declared.reading.bounds.Bounds.{Bounds}

-- the bounds of a batch for a network with so many entries, which is large or not; a list of grants comes to no
-- network, and its bounds are those of 0 entries
abbrev pub bounds_of : Bool → ℕ → Bounds
bounds_of large entries = record {
  entries = entries;
  clients = if large then MOST_NAMED else MOST_CLIENTS;
  records = if large then MOST_NAMED else MOST_RECORDS;
}

-- a batch within these bounds can be read and served
pub record AreBounds (bounds : Bounds) : Type 0 where
  pub some : 0 < bounds.entries
  pub clients : bounds.clients ≤ MOST_NAMED
  pub records : bounds.records ≤ MOST_NAMED
