-- Lists of grants: what callers are handed of a ledger.
use Rattle.std.specs.Prelude.{◌≡◌, ℕ, ◌+◌, ◌==◌, ◌&&◌, Bool, List, count_by}
use Rattle.cn_ledger.specs.Ledger.{Ledger}

-- a client left by an exit with a visit, and got a name
pub record Grant : Type 0 where
  pub client : ℕ
  pub exit : ℕ
  pub visit : ℕ
  pub name : ℕ

-- is it this grant? `name` is the ledger's: the grant has it minus the base.
abbrev pub is_grant : ℕ → ℕ → ℕ → ℕ → ℕ → Grant → Bool
is_grant base c i v name g = (g.client == c) && ((g.exit == i) && ((g.visit == v) && (g.name + base == name)))

-- the list has the grants that were made from one ledger to a later one, each as often as it was made
abbrev pub ListsGrants : ℕ → Ledger → Ledger → List Grant → Type 0
ListsGrants base old new grants =
    (c i v name : ℕ) → new.granted c i v name ≡ old.granted c i v name + count_by (is_grant base c i v name) grants
