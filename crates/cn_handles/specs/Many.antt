-- What the naming of many clients by one call makes of a lane.
use Rattle.std.specs.Prelude.{List, Option, Some, [], ℕ, ◌<◌, ◌∷◌, ◌≡◌, ◌≢◌, ◌≤◌}
use Rattle.std.specs.Prelude.{drop, get_or, length, map, slice_index, take}
use Rattle.cn_spec.specs.Sums.{times}
use Rattle.cn_ledger.specs.declared.client.Client as ledger
use Rattle.cn_floor.specs.Lane.{LaneValue}
use Rattle.cn_lists.specs.Listed.{AreNamed, HaveNames}
use Rattle.cn_floor.specs.Named.{IsNamed}
use Rattle.cn_floor.specs.Steps.{StoodInState}
use Rattle.cn_walk.specs.Walks.{WalksAll}
use Rattle.cn_handles.specs.Questions.{AreGrantsFrom}
use Rattle.cn_handles.specs.declared.handles.client.Client.{Client}
use Rattle.cn_handles.specs.declared.handles.grants.Grant.{Grant}

-- a client of a list of C's
abbrev pub client_from : Client → ledger.Client
client_from c = record { id = c.client; entry = c.entry }

-- a client, for a place that a list lacks
abbrev pub no_client : Client
no_client = record { client = 0; entry = 0 }

-- clients who all come in by one entry
abbrev pub by_entry : ℕ → List ℕ → List ledger.Client
by_entry entry ids = map (λ id. record { id = id; entry = entry }) ids

-- by which entry the first client of a list comes in
abbrev pub first_entry : List Client → ℕ
first_entry clients = (get_or clients 0 no_client).entry

-- the longest run of clients by this entry from the start of a list, up to so many: n of them
pub record IsLongestRun (clients : List Client) (entry most n : ℕ) : Type 0 where
  pub some : 0 < n
  pub few : (n ≤ length clients) × (n ≤ most)
  pub same : (i : ℕ) (c : Client) → i < n → (get_or clients i c).entry ≡ entry
  pub ended : (c : Client) → n < length clients → n < most → (get_or clients n c).entry ≢ entry

-- clients who come in by one entry are named: one by itself, and several together
pub record AreNamedAtOnce (old new : LaneValue) (ids : List ℕ) (entry : ℕ) : Type 0 where
  pub one : length ids ≡ 1 → (name : ℕ) × IsNamed old new (slice_index ids 0) entry name
  pub several : 1 < length ids → AreNamed old new ids entry

-- clients of a list are named by runs of these lengths, one after the other, each as long as it can be
abbrev pub AreNamedByRuns : List ℕ → LaneValue → LaneValue → List Client → Type 0
AreNamedByRuns [] old new clients = (clients ≡ []) × (new ≡ old)
AreNamedByRuns (n ∷ ns) old new clients = (next : LaneValue) × (entry : ℕ) × IsLongestRun clients entry 64 n
    × AreNamedAtOnce old next (map (λ c. c.client) (take n clients)) entry × AreNamedByRuns ns next new (drop n clients)

-- clients came in and left: a grant more for each, and no name stands twice in the lane; they are named by runs, by the
-- lane with the room that it may get first
pub record AreAllNamed (old new : LaneValue) (clients : List Client) : Type 0 where
  pub walked : WalksAll old new (map client_from clients)
  pub in_state : 0 < length clients → StoodInState old.home.start new.view
  pub runs : (first : LaneValue) × (lengths : List ℕ) × (first.home ≡ old.home) × (first.view ≡ old.view)
      × (first.yard.lists ≡ old.yard.lists) × AreNamedByRuns lengths first new clients
  pub once : 0 < length clients → (name : ℕ) → times name (map (λ g. g.name) new.view.grants) ≤ 1

-- the same of what handles have, with these grants in the order in which the clients left
abbrev pub NamesMany : Option LaneValue → Option LaneValue → List Client → List Grant → Type 0
NamesMany old new clients grants =
    (l k : LaneValue) × (old ≡ Some l) × (new ≡ Some k) × AreAllNamed l k clients
    × AreGrantsFrom k.view.grants (length l.view.grants) grants × (length grants ≡ length clients)

-- ---- the clients of a list, who come in by one entry

-- these clients, as a list of C's
abbrev pub all_by : ℕ → List ℕ → List Client
all_by entry ids = map (λ id. record { client = id; entry = entry }) ids

-- clients by one entry are named, and these are their names by the lane's new grants, in the order of the clients
pub record AreListed (old new : LaneValue) (ids : List ℕ) (entry : ℕ) (names : List ℕ) : Type 0 where
  pub named : AreAllNamed old new (all_by entry ids)
  pub listed : HaveNames old.view new.view ids names

-- the same of what handles have
abbrev pub NamesList : Option LaneValue → Option LaneValue → List ℕ → ℕ → List ℕ → Type 0
NamesList old new ids entry names =
    (l k : LaneValue) × (old ≡ Some l) × (new ≡ Some k) × AreListed l k ids entry names
