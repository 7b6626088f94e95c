-- What a walk of clients makes of a lane.
use Rattle.std.specs.Prelude.{◌≡◌, ℕ, ◌+◌, ◌-◌, ◌≤◌, ◌++◌, ◌==◌, List, count_by, length, map, sum_by}
use Rattle.std.specs.List.{range_with_len}
use Rattle.cn_spec.specs.Step.{IsEachBelow}
use Rattle.cn_spec.specs.Sums.{sum_below}
use Rattle.cn_ledger.specs.declared.client.Client.{Client}
use Rattle.cn_yard.specs.Lists.{on, tokens_in}
use Rattle.cn_floor.specs.declared.view.Grant.{Grant}
use Rattle.cn_floor.specs.declared.view.View.{View}
use Rattle.cn_floor.specs.Lane.{LaneValue}

-- grants for these clients: as many as they are, and to each client as often as it is among them
pub record AreFor (clients : List Client) (grants : List Grant) : Type 0 where
  pub as_many : length grants ≡ length clients
  pub as_often : (id : ℕ) → count_by (λ g. g.client == id) grants ≡ count_by (λ c. c.id == id) clients

-- the clients came in and went out: the lane has nobody inside, and a grant more for each of them
pub record WalksAll (old new : LaneValue) (clients : List Client) : Type 0 where
  pub home : new.home ≡ old.home
  pub out : tokens_in new.yard.lists ≡ 0
  pub quota : new.view.quota + length clients ≡ old.view.quota
  pub room : new.room ≡ old.room - length clients
  pub spare : old.yard.spare ≤ new.yard.spare
  pub entries : new.view.entries ≡ old.view.entries ++ map (λ c. c.entry) clients
  pub came : new.view.came ≡ old.view.came ++ clients
  pub seen : new.view.seen ≡ old.view.seen
  pub grants : (more : List Grant) × (new.view.grants ≡ old.view.grants ++ more) × AreFor clients more

-- ---- in their order

-- the grants are the clients' in their order, with the names from one on in theirs
pub record AreInOrder (from : ℕ) (clients : List Client) (grants : List Grant) : Type 0 where
  pub clients_are : map (λ g. g.client) grants ≡ map (λ c. c.id) clients
  pub names_are : map (λ g. g.name) grants ≡ range_with_len from (length clients)

-- so are the grants that a lane has more
abbrev pub GrantsInOrder : LaneValue → LaneValue → List Client → Type 0
GrantsInOrder old new clients =
    (more : List Grant) × (new.view.grants ≡ old.view.grants ++ more)
    × AreInOrder (length old.view.grants) clients more

-- nobody comes in by another lane: this one has the whole quota of its floor, spent or not; and its names are those
-- below the number of its grants, each once
pub record IsSole (lane : LaneValue) : Type 0 where
  pub quota : lane.home.start.quota ≤ lane.view.quota + length lane.view.entries
  pub names : IsEachBelow (length lane.view.grants) (map (λ g. g.name) lane.view.grants)

-- ---- while they walk

-- those inside, each weighed by its client
abbrev pub inside_by : (ℕ → ℕ) → View → ℕ
inside_by f v = sum_below (length v.tokens) (λ u. sum_by (λ e. f e.1) (on v.tokens u))

-- these clients came in, and some of those inside went out: however clients are weighed, nobody is lost or made
pub record Walks (old new : LaneValue) (clients : List Client) : Type 0 where
  pub home : new.home ≡ old.home
  pub quota : new.view.quota + length clients ≡ old.view.quota
  pub room : new.room ≡ old.room - length clients
  -- no record is lost, of those for the clients inside and those that are free
  pub records : tokens_in old.yard.lists + old.yard.spare ≤ tokens_in new.yard.lists + new.yard.spare
  pub entries : new.view.entries ≡ old.view.entries ++ map (λ c. c.entry) clients
  pub came : new.view.came ≡ old.view.came ++ clients
  pub seen : new.view.seen ≡ old.view.seen
  pub grants : (more : List Grant) × (new.view.grants ≡ old.view.grants ++ more)
      × ((f : ℕ → ℕ)
      → sum_by (λ g. f g.client) more + inside_by f new.view ≡ inside_by f old.view + sum_by (λ c. f c.id) clients)
