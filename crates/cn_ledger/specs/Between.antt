-- What is granted from one moment to a later one.
use Rattle.std.specs.Prelude.{◌≡◌, ℕ, ◌+◌, ◌/◌, ◌%◌, ◌<◌, ◌≤◌, ◌==◌}
use Rattle.cn_spec.specs.Sums.{when}
use Rattle.cn_tables.specs.Table.{Table}
use Rattle.cn_ledger.specs.Ledger.{Ledger, all_entered}

-- The names that are granted in between are those from the number that had entered to one less than the number that has
-- entered now, each once.
pub record GrantsBetween (t : Table) (old new : Ledger) : Type 0 where
  -- no grant is taken back
  pub kept : (c i v name : ℕ) → old.granted c i v name ≤ new.granted c i v name
  -- each of these names is granted to one client, once, and to no other
  pub each : (name : ℕ) → all_entered t old ≤ name → name < all_entered t new
      → (c : ℕ) × ((d : ℕ) → new.granted d (name % t.width) (name / t.width) name
      ≡ old.granted d (name % t.width) (name / t.width) name + when (c == d) 1)
  -- and each grant made is of one of them
  pub only : (c i v name : ℕ) → old.granted c i v name < new.granted c i v name
      → (all_entered t old ≤ name) × (name < all_entered t new)
