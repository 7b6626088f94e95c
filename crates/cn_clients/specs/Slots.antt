-- Slots that threads fill by name.
use Rattle.std.specs.Prelude.{◌≡◌, ℕ, ◌<◌, ◌++◌, All, List, get_or, length, map}
use Rattle.std.specs.Sync.OnceLock.{Named}
use Rattle.cn_floor.specs.declared.view.Grant.{Grant}
use Rattle.cn_floor.specs.Lane.{LaneValue}
use Rattle.cn_clients.specs.declared.filled.Filled.{Filled}

-- the names whose slots were filled
abbrev pub names_of : List Filled → List ℕ
names_of filled = map (λ f. f.name) filled

-- the name and the client of a slot, and those of a grant
abbrev pub written : Filled → ℕ × ℕ
written f = (f.name, f.client)

-- the name and the client of a grant
abbrev pub given : Grant → ℕ × ℕ
given g = (g.name, g.client)

-- the clients that slots were filled with
abbrev pub clients_filled : List Filled → List ℕ
clients_filled filled = map (λ f. f.client) filled

-- what was filled is the slot of the name among these
abbrev pub AreSlotsOf : List Named → List Filled → Type 0
AreSlotsOf slots filled =
    All (λ f. (f.name < length slots) × (f.slot.now ≡ get_or slots f.name f.slot.now)) filled

-- a lane named these clients, and the slot of each name was filled with the client that got it: they are those of the
-- lane's newest grants, in their order, and its wires are as before
pub record FilledBy (slots : List Named) (old new : LaneValue) (clients : List ℕ) (filled : List Filled) : Type 0 where
  pub home : new.home ≡ old.home
  pub lists : new.yard.lists ≡ old.yard.lists
  pub grants : (more : List Grant) × (new.view.grants ≡ old.view.grants ++ more)
      × (map written filled ≡ map given more)
  pub all : clients_filled filled ≡ clients
  pub by_name : AreSlotsOf slots filled
