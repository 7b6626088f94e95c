-- A taker as contracts see it, and what calls make of one.
use Rattle.std.specs.Prelude.{◌≡◌, ℕ, ◌+◌, ◌<◌, ◌++◌, List, get_or, length, map}
use Rattle.cn_lists.specs.declared.taking.Names.{Names}
use Rattle.cn_floor.specs.declared.view.Grant.{Grant}
use Rattle.cn_floor.specs.Lane.{FloorValue, PostValue, empty_post}
use Rattle.cn_lists.specs.Listed.{HaveWalked}
use Rattle.cn_floor.specs.Named.{IsGranted}

-- a taker is its post: its floor, and what it has done
abbrev pub TakerValue : Type 0
TakerValue = PostValue

-- a taker of this floor that has done nothing
abbrev pub empty_taker : FloorValue → ℕ → TakerValue
empty_taker home quota = empty_post home quota

-- a taker took one name more: a client without an identity, for which 0 stands, walked through
pub record IsTaken (old new : TakerValue) (entry name : ℕ) : Type 0 where
  pub home : new.home ≡ old.home
  pub grant : Grant
  pub granted : IsGranted old.home.start 0 entry grant old.view new.view
  pub named : grant.name ≡ name

-- a taker took names together, for as many clients as these, who came in by an entry
pub record AreTaken (old new : TakerValue) (clients : List ℕ) (entry : ℕ) (names : List ℕ) : Type 0 where
  pub home : new.home ≡ old.home
  pub walked : HaveWalked old.home.start clients entry old.view new.view
  pub named : (more : List Grant) × (new.view.grants ≡ old.view.grants ++ more) × (names ≡ map (λ g. g.name) more)

-- the names of all grants but the first ones are written
pub record AreWritten (before now : List Grant) (notes : Names) : Type 0 where
  pub many : length now ≡ length before + notes.at
  pub each : (k : ℕ) (d : Grant) → k < notes.at → get_or notes.names.now k 0 ≡ (get_or now (length before + k) d).name
