-- Clients that threads named.
use Rattle.std.specs.Prelude.{◌≡◌, ℕ, ◌+◌, ◌≤◌, ◌++◌, List, map}
use Rattle.cn_spec.specs.Sums.{times}
use Rattle.cn_floor.specs.declared.view.Grant.{Grant}
use Rattle.cn_floor.specs.Lane.{LaneValue}

-- the names that grants give, in their order
abbrev pub names_granted : List Grant → List ℕ
names_granted grants = map (λ g. g.name) grants

-- the clients that grants name, in their order
abbrev pub clients_granted : List Grant → List ℕ
clients_granted grants = map (λ g. g.client) grants

-- grants of these clients with these names, in their order
abbrev pub AreGrantsOf : List ℕ → List ℕ → List Grant → Type 0
AreGrantsOf clients names grants = (clients ≡ clients_granted grants) × (names ≡ names_granted grants)

-- a lane named these clients, one after the other: its newest grants are theirs, and its wires are as before
pub record GaveNames (old new : LaneValue) (clients names : List ℕ) : Type 0 where
  pub home : new.home ≡ old.home
  pub lists : new.yard.lists ≡ old.yard.lists
  pub grants : (more : List Grant) × (new.view.grants ≡ old.view.grants ++ more) × AreGrantsOf clients names more

-- no name stands twice in two lists, or in both
abbrev pub AreDistinct : List ℕ → List ℕ → Type 0
AreDistinct first second = (name : ℕ) → times name first + times name second ≤ 1
