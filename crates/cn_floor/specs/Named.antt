-- A client that walked through a network by itself, and its name.
use Rattle.std.specs.Prelude.{◌≡◌, ℕ, ◌+◌, ◌-◌, ◌<◌, ◌++◌, ◌∷◌, [], List, length, replicate}
use Rattle.cn_tables.specs.declared.end.End.TheVariants.{Exit}
use Rattle.cn_tables.specs.Table.{end_of}
use Rattle.cn_ledger.specs.Events.{Enters}
use Rattle.cn_floor.specs.declared.view.Grant.{Grant}
use Rattle.cn_floor.specs.declared.view.Start.{Start}
use Rattle.cn_floor.specs.declared.view.View.{View}
use Rattle.cn_floor.specs.Lane.{LaneValue}
use Rattle.cn_floor.specs.Alone.{PassesOn}
use Rattle.cn_floor.specs.Plays.{IsLetBy}
use Rattle.cn_floor.specs.Steps.{IsAtomicStep, StoodInState}
use Rattle.cn_floor.specs.Views.{after_enter, after_step}

-- a client comes in by an entry, passes balancers, and leaves by an exit with this visit: by one event each
pub record WalksThrough (start : Start) (client entry exit visit : ℕ) (v w : View) : Type 0 where
  pub token : ℕ
  pub numbers : List ℕ
  pub wire : ℕ
  -- the view once it is in, and once it stands before the exit
  pub inside : View
  pub before : View
  pub came : inside ≡ after_enter token client entry v
  pub comes : IsAtomicStep start v inside (λ l m. Enters start.network.table l m client entry)
  pub passes : PassesOn start token client numbers entry inside wire before
  pub ends : end_of start.network.table wire ≡ Exit exit
  pub leaves : IsLetBy start before w client (Exit exit) visit
  pub after : w ≡ after_step token client (Exit exit) visit before

-- a client walked through by itself, and got this grant
pub record IsGranted (start : Start) (client entry : ℕ) (grant : Grant) (v w : View) : Type 0 where
  pub walked : WalksThrough start client entry grant.exit grant.visit v w
  pub who : grant.client ≡ client
  pub begun : w.start ≡ v.start
  pub quota : w.quota + 1 ≡ v.quota
  pub entries : w.entries ≡ v.entries ++ entry ∷ []
  pub came : w.came ≡ v.came ++ record { id = client; entry = entry } ∷ []
  pub grants : w.grants ≡ v.grants ++ grant ∷ []
  pub seen : w.seen ≡ v.seen
  pub loads : w.loads ≡ v.loads
  -- by as many atomic steps as the network is deep, and two
  pub steps : w.steps ≡ v.steps + (start.network.depth + 2)
  -- the name is below what the floor may let in, and the view stands in some state
  pub low : grant.name < start.quota
  pub in_state : StoodInState start w

-- so many clients came in and left: what that made of a view, of whatever clients
pub record AllLeft (many : ℕ) (v w : View) : Type 0 where
  pub begun : w.start ≡ v.start
  pub loads : w.loads ≡ v.loads
  pub gone : w.tokens ≡ replicate (length v.tokens) []
  pub quota : w.quota + many ≡ v.quota
  pub grants : length w.grants ≡ length v.grants + many

-- what a walk of so many clients made of a lane, beside its view
pub record LetsWalk (old new : LaneValue) (many : ℕ) : Type 0 where
  pub home : new.home ≡ old.home
  pub yard : new.yard ≡ old.yard
  pub room : new.room ≡ old.room - many

-- a lane named one client more
pub record IsNamed (old new : LaneValue) (client entry name : ℕ) : Type 0 where
  pub home : new.home ≡ old.home
  pub exit : ℕ
  pub visit : ℕ
  pub walked : WalksThrough old.home.start client entry exit visit old.view new.view
  pub quota : new.view.quota + 1 ≡ old.view.quota
  pub entries : new.view.entries ≡ old.view.entries ++ entry ∷ []
  pub came : new.view.came ≡ old.view.came ++ record { id = client; entry = entry } ∷ []
  pub grants : new.view.grants
      ≡ old.view.grants ++ record { client = client; exit = exit; visit = visit; name = name } ∷ []
  pub seen : new.view.seen ≡ old.view.seen
  -- by as many atomic steps as the network is deep, and two
  pub steps : new.view.steps ≡ old.view.steps + (old.home.start.network.depth + 2)
  -- the name is below what the floor may let in, and the lane stands in some state
  pub low : name < old.home.start.quota
  pub in_state : StoodInState old.home.start new.view
  pub yard : new.yard ≡ old.yard
  pub room : new.room ≡ old.room - 1
