-- An epoch's grants. Tight epochs are this project's own; renaming is that of Attiya, Bar-Noy, Dolev, Peleg, Reischuk,
-- JACM 1990.
use Rattle.std.specs.Prelude.{ℕ, ◌≡◌, ◌<◌, ◌≤◌, nat_eq, List, [], ◌∷◌, length, map, count_by, Some, slice_index}
use Rattle.std.specs.List.Sorted.{IsPermutation}
use Rattle.std.specs.Map.{keys_of}
use Rattle.cn_spec.specs.Step.{share, IsEachBelow}
use Rattle.cn_spec.specs.Sums.{Agree}
use Rattle.cn_tables.specs.declared.end.End.{End}
use Rattle.cn_tables.specs.declared.end.End.TheVariants.{Balancer, Exit}
use Rattle.cn_tables.specs.Table.{IsFullFlow, Stands, sum_at}
use Rattle.cn_core.specs.declared.position.Position.{Position}
use Rattle.cn_core.specs.declared.position.Position.TheVariants.{On, Holds}
use Rattle.cn_core.specs.History.{Carried}
use Rattle.cn_core.specs.State.{State, came_in, name_in, past}

-- the name and the client of each client that holds a name, in the order in which they entered
abbrev pub grants_of_clients : List (ℕ × Position) → List (ℕ × ℕ)
grants_of_clients [] = []
grants_of_clients ((client, On wire) ∷ clients) = grants_of_clients clients
grants_of_clients ((client, Holds name) ∷ clients) = (name, client) ∷ grants_of_clients clients

-- the grants, each a name and its client, pair the numbers below k with distinct clients, one to one and onto
pub record IsTightEpoch (k : ℕ) (grants : List (ℕ × ℕ)) : Type 0 where
  pub clients : (client : ℕ) → count_by (λ grant. nat_eq client grant.1) grants ≤ 1
  pub names : IsEachBelow k (map (λ grant. grant.0) grants)

-- what a state has given out when nobody is inside
pub record IsTightState (s : State) : Type 0 where
  -- each exit has let out its share of what came in
  pub counts : (i : ℕ) → i < s.network.table.width
      → slice_index s.visits i ≡ share (came_in s) s.network.table.width i
  -- each client has a name, and the names are those below the number of clients
  pub everyone : length (grants_of_clients s.clients) ≡ length s.clients
  pub tight : IsTightEpoch (length s.clients) (grants_of_clients s.clients)

-- what earlier epochs left by each exit is its share of their clients
abbrev pub HasShares : ℕ → Carried → Type 0
HasShares width carried =
    (exit : ℕ) → exit < width → carried.steps (Exit exit) ≡ share carried.enters width exit

-- a full flow of all that came in
abbrev pub BringsAll : State → (ℕ → ℕ) → Type 0
BringsAll s f =
    IsFullFlow s.network.table f × Agree s.network.table.entries f (λ entry. slice_index s.entered entry)

-- what a state has given out at any time
pub record IsBoundedState (s : State) : Type 0 where
  -- no balancer has passed more than the full flow of what entered brings there
  pub passes : (f : ℕ → ℕ) → BringsAll s f → (b : ℕ) → b < s.network.table.balancers
      → slice_index s.passes b ≤ sum_at s.network.table (Balancer b) f
  -- no exit has let out more than its share of what came in
  pub counts : (i : ℕ) → i < s.network.table.width
      → slice_index s.visits i ≤ share (came_in s) s.network.table.width i
  -- nor less than its share of the base: the visits of the epoch begin there
  pub carried : (i : ℕ) → i < s.network.table.width
      → share s.base s.network.table.width i ≤ slice_index s.visits i
  -- no count is more than what came in
  pub entries : (entry : ℕ) → entry < s.network.table.entries
      → slice_index s.entered entry ≤ came_in s
  pub ends : (end : End) → Stands s.network.table end → past s end ≤ came_in s
  -- each name is below the number of clients, and no two clients have one name
  pub below : (client name : ℕ) → name_in s client ≡ Some name → name < length s.clients
  pub distinct : (client other name : ℕ) → name_in s client ≡ Some name
      → name_in s other ≡ Some name → client ≡ other

-- the clients of a state by rising name
pub record ListsStateHolders (s : State) (holders : List ℕ) : Type 0 where
  -- there are as many places as clients
  pub all : length holders ≡ length s.clients
  -- at each place stands the client that holds the place's number
  pub by_name : (name : ℕ) → name < length s.clients
      → name_in s (slice_index holders name) ≡ Some name
  -- they are the clients that entered, each once
  pub own : IsPermutation (keys_of s.clients) holders
  pub once : (client : ℕ) → count_by (nat_eq client) holders ≤ 1
