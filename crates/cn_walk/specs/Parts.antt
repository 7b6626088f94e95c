-- The lanes of many workers, in a tree of forks with two parts each.
use Rattle.std.specs.Prelude.{◌≡◌, ℕ, ◌+◌, ◌-◌, ◌*◌, ◌/◌, ◌<◌, ◌≤◌, All, List, [], length, min, ⊤}
use Rattle.cn_ledger.specs.declared.client.Client.{Client}
use Rattle.cn_yard.specs.Lists.{tokens_in}
use Rattle.cn_walk.specs.declared.forking.Lanes.{Lanes}
use Rattle.cn_walk.specs.declared.forking.Lanes.TheVariants.{One, Fork'}
use Rattle.cn_floor.specs.Lane.{FloorValue, LaneValue}
use Rattle.cn_floor.specs.Views.{after_join, after_look}

-- the position of a worker's first client among k, of w workers
abbrev pub first_position : ℕ → ℕ → ℕ → ℕ
first_position k w worker = worker * k / w

-- the second lane taken into the first
abbrev pub together : LaneValue → LaneValue → LaneValue
together lane other = record lane {
  view = after_look (after_join lane.view other.view);
  room = lane.room - length other.view.grants;
}

-- the lane that all of them make together
abbrev pub whole : Lanes → LaneValue
whole (One lane worker) = lane
whole (Fork' at p left q right) = together (whole left) (whole right)

-- it is a single lane
abbrev pub IsOne : Lanes → Type 0
IsOne (One lane worker) = ⊤
IsOne (Fork' at p left q right) = ⊥

-- a lane that has done nothing
pub record HasNothing (lane : LaneValue) : Type 0 where
  pub inside : tokens_in lane.yard.lists ≡ 0
  pub entries : lane.view.entries ≡ []
  pub came : lane.view.came ≡ []
  pub grants : lane.view.grants ≡ []

-- and has quota and room for so many clients, and free records for those of them who are inside at once, a hand at most
pub record IsReady (home : FloorValue) (clients hand : ℕ) (lane : LaneValue) : Type 0 where
  pub home_is : lane.home ≡ home
  pub nothing : HasNothing lane
  pub quota : clients ≤ lane.view.quota
  pub room : clients ≤ lane.room
  pub spare : min clients hand ≤ lane.yard.spare

-- so is each part of a fork for its clients, and all of them together
abbrev pub AreReady : FloorValue → ℕ → ℕ → Lanes → Type 0
AreReady home clients hand (One lane worker) = IsReady home clients hand lane
AreReady home clients hand (Fork' at p left q right) =
    IsReady home clients hand (together (whole left) (whole right)) × (at ≤ clients)
    × AreReady home at hand left × AreReady home (clients - at) hand right

-- none of them has more free records than n
abbrev pub SpareAtMost : ℕ → Lanes → Type 0
SpareAtMost n (One lane worker) = lane.yard.spare ≤ n
SpareAtMost n (Fork' at p left q right) = SpareAtMost n left × SpareAtMost n right

-- they are the lanes of the workers from `from` up to, not including, `to` of w: a single lane is that of one of them,
-- who has all their clients; and the clients that are counted for each part are those of its workers among k, and
-- neither part has none
abbrev pub AreOf : ℕ → ℕ → ℕ → ℕ → Lanes → Type 0
AreOf k w from to (One lane worker) =
    (from ≤ worker) × (worker < to)
    × (first_position k w worker ≡ first_position k w from) × (first_position k w (worker + 1) ≡ first_position k w to)
AreOf k w from to (Fork' at p left q right) =
    (middle : ℕ) × (from < middle) × (middle < to) × (at ≡ first_position k w middle - first_position k w from)
    × (0 < at) × (at < first_position k w to - first_position k w from)
    × AreOf k w from middle left × AreOf k w middle to right

-- these clients may be walked through the lanes
abbrev pub MayWalk : FloorValue → List Client → ℕ → Lanes → Type 0
MayWalk home clients hand lanes =
    AreReady home (length clients) hand lanes × All (λ c. c.entry < home.start.network.table.entries) clients
    × (0 < hand)

-- two parts make lanes: if they are ready for the first clients, for the others and together for all, so are the lanes
pub record IsPair (at : ℕ) (left right lanes : Lanes) : Type 0 where
  pub whole_is : whole lanes ≡ together (whole left) (whole right)
  pub ready : (home : FloorValue) (n hand : ℕ) → IsReady home n hand (together (whole left) (whole right)) → at ≤ n
      → AreReady home at hand left → AreReady home (n - at) hand right → AreReady home n hand lanes
  -- if none of either part has more free records than n, none of all has
  pub spared : (n : ℕ) → SpareAtMost n left → SpareAtMost n right → SpareAtMost n lanes
  -- and if the parts are of workers that follow one another, and each has clients, the lanes are of all these
  pub of : (k w from middle to : ℕ) → from < middle → middle < to
      → at ≡ first_position k w middle - first_position k w from
      → 0 < at → at < first_position k w to - first_position k w from
      → AreOf k w from middle left → AreOf k w middle to right → AreOf k w from to lanes
