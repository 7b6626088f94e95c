-- Clients of a list who come in by one entry and pass the ends of wires together.
use Rattle.std.specs.Prelude.{◌≡◌, ◌≢◌, ℕ, zero, suc, ◌+◌, ◌-◌, ◌*◌, ◌<◌, ◌≤◌, ◌^◌, ◌++◌, ◌==◌, [], ◌∷◌, IsPermutation, List, count_by, length, map, replicate, slice_index, take, vec_capacity}
use Rattle.cn_spec.specs.Sums.{times}
use Rattle.cn_ledger.specs.declared.client.Client.{Client}
use Rattle.cn_yard.specs.Lists.{on}
use Rattle.cn_lists.specs.declared.listed.Granting.{Granting}
use Rattle.cn_lists.specs.declared.listed.Places.{Places}
use Rattle.cn_floor.specs.declared.view.Grant.{Grant}
use Rattle.cn_floor.specs.declared.view.Start.{Start}
use Rattle.cn_floor.specs.declared.view.View.{View}
use Rattle.cn_floor.specs.Lane.{LaneValue}
use Rattle.cn_floor.specs.EntersAll.{EnterInTurn, after_enter_all}
use Rattle.cn_floor.specs.Steps.{IsAtomicStep, StoodInState}
use Rattle.cn_floor.specs.Sweeps.{SweptBy}

-- of a list's clients those at the places first, first + gap and so on, so many; each is a token with the number of
-- its place
unfoldable pub placed : List ℕ → ℕ → ℕ → ℕ → List (ℕ × ℕ)
placed clients first gap zero = []
placed clients first gap (suc n) = (first, slice_index clients first) ∷ placed clients (first + gap) gap n

-- what stays the same of a lane's grants, a list of clients who get more, and that of their names
pub record ListFrame : Type 0 where
  pub grants : ℕ
  pub list : ℕ
  pub capacity : ℕ
  pub clients : List ℕ
  pub names : ℕ
  pub size : ℕ

abbrev pub frame_of : Granting → ListFrame
frame_of notes = record {
  grants = notes.grants.ghost_name;
  list = notes.list.ghost_name;
  capacity = vec_capacity notes.grants.now;
  clients = notes.list.now.clients.now;
  names = notes.list.now.names.ghost_name;
  size = length notes.list.now.names.now;
}

-- these tokens are so many of the list's clients, from a place on
pub record Stand (frame : ListFrame) (p : Places) (count : ℕ) (tokens : List (ℕ × ℕ)) : Type 0 where
  pub are : tokens ≡ placed frame.clients p.first p.gap count
  pub within : 0 < count → p.first + p.gap * (count - 1) < length frame.clients
  pub few : length frame.clients < 2 ^ 63

-- how often each token has gone, if it went so often and these have gone too
abbrev pub gone_too : (ℕ → ℕ) → List (ℕ × ℕ) → ℕ → ℕ
gone_too gone tokens = λ k. gone k + count_by (λ e. e.0 == k) tokens

-- grants came after the first ones, to clients of a list at places that have gone so often; the name of each stands at
-- its place, if the list of names has one for each, and none has gone twice
pub record AreNoted (before now : List Grant) (gone : ℕ → ℕ) (clients : List ℕ) (all : List Grant)
    (names : List ℕ) : Type 0 where
  pub items : all ≡ now
  pub places : List ℕ
  pub often : (k : ℕ) → times k places ≡ gone k
  pub more : List Grant
  pub grew : now ≡ before ++ more
  pub whose : map (λ g. g.client) more ≡ map (λ k. slice_index clients k) places
  pub called : length names ≡ length clients → ((k : ℕ) → gone k ≤ 1)
      → map (λ g. g.name) more ≡ map (λ k. slice_index names k) places

-- these grants, put into the order of these clients, are to them, and have these names
pub record AreNamesBy (grants : List Grant) (clients names : List ℕ) : Type 0 where
  pub order : List Grant
  pub same : IsPermutation grants order
  pub whose : map (λ g. g.client) order ≡ clients
  pub called : map (λ g. g.name) order ≡ names

-- the grants that a view has more are those of clients of a list, whose names stand in the order of the list
abbrev pub HaveNames : View → View → List ℕ → List ℕ → Type 0
HaveNames v w clients names = (more : List Grant) × (w.grants ≡ v.grants ++ more) × AreNamesBy more clients names

-- grants for these tokens: as many, and to each client as often as it has tokens
pub record AreTheirs (tokens : List (ℕ × ℕ)) (grants : List Grant) : Type 0 where
  pub as_many : length grants ≡ length tokens
  pub as_often : (client : ℕ) → count_by (λ g. g.client == client) grants ≡ count_by (λ e. e.1 == client) tokens

-- the clients of a list, who all come by one entry
abbrev pub by_one_entry : ℕ → List ℕ → List Client
by_one_entry entry clients = map (λ id. record { id = id; entry = entry }) clients

-- what the first k clients of a list, who came in by an entry, made of a view with nobody inside
pub record CameIn (v w : View) (clients : List ℕ) (entry k : ℕ) : Type 0 where
  pub start : w.start ≡ v.start
  pub quota : w.quota + k ≡ v.quota
  pub entries : w.entries ≡ v.entries ++ replicate (k) entry
  pub came : w.came ≡ v.came ++ by_one_entry entry (take k clients)
  pub seen : w.seen ≡ v.seen
  pub loads : w.loads ≡ v.loads
  pub grants : w.grants ≡ v.grants
  pub wires : length w.tokens ≡ length v.tokens
  pub there : on w.tokens entry ≡ placed clients 0 1 (k)
  pub others : (u : ℕ) → u ≢ entry → on w.tokens u ≡ []

-- what these tokens, which stood on a wire, made of a view until all of them had left
pub record HaveLeft (v w : View) (wire : ℕ) (tokens : List (ℕ × ℕ)) : Type 0 where
  pub start : w.start ≡ v.start
  pub quota : w.quota ≡ v.quota
  pub entries : w.entries ≡ v.entries
  pub came : w.came ≡ v.came
  pub seen : w.seen ≡ v.seen
  pub loads : w.loads ≡ v.loads
  pub wires : length w.tokens ≡ length v.tokens
  pub empty : on w.tokens wire ≡ []
  pub others : (u : ℕ) → u ≢ wire → on w.tokens u ≡ on v.tokens u
  pub grants : (more : List Grant) × (w.grants ≡ v.grants ++ more) × AreTheirs tokens more
  pub in_state : 0 < length tokens → StoodInState v.start w
  pub nobody : length tokens ≡ 0 → w ≡ v

-- the clients of a list come in by an entry, in one step, and leave by sweeps of these wires
pub record WalkTogether (start : Start) (clients : List ℕ) (entry : ℕ) (v w : View) : Type 0 where
  -- it is as many events in turn as clients
  pub came : IsAtomicStep start v (after_enter_all clients entry v)
      (EnterInTurn start.network.table clients entry 0 (length clients))
  pub wires : List ℕ
  pub swept : SweptBy start wires (after_enter_all clients entry v) w
  pub steps : w.steps ≡ v.steps + 1 + length wires

-- the clients of a list came in by an entry and left: a grant more for each of them
pub record HaveWalked (start : Start) (clients : List ℕ) (entry : ℕ) (v w : View) : Type 0 where
  pub together : WalkTogether start clients entry v w
  pub quota : w.quota + length clients ≡ v.quota
  pub entries : w.entries ≡ v.entries ++ replicate (length clients) entry
  pub came : w.came ≡ v.came ++ by_one_entry entry clients
  pub seen : w.seen ≡ v.seen
  pub grants : (more : List Grant) × (w.grants ≡ v.grants ++ more) × (length more ≡ length clients)
      × ((client : ℕ) → count_by (λ g. g.client == client) more ≡ times client clients)
  -- by as many atomic steps as one client takes, at least
  pub enough_steps : 0 < length clients → v.steps + (start.network.depth + 2) ≤ w.steps
  -- and at most by one, and for each of them as many as the network is deep, and one
  pub few_steps : w.steps ≤ v.steps + 1 + (start.network.depth + 1) * length clients
  -- the view stands in some state: so the rule holds of its names
  pub in_state : 0 < length clients → StoodInState start w

-- they are clients of a lane, whose wires are as before
pub record AreNamed (old new : LaneValue) (clients : List ℕ) (entry : ℕ) : Type 0 where
  pub home : new.home ≡ old.home
  pub walked : HaveWalked old.home.start clients entry old.view new.view
  pub yard : new.yard ≡ old.yard
  pub room : new.room ≡ old.room - length clients
