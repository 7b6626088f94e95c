-- What single steps make of lanes.
use Rattle.std.specs.Prelude.{◌≡◌, ℕ, Option, Some}
use Rattle.cn_yard.specs.Lists.{first_of, on}
use Rattle.cn_ledger.specs.declared.moved.Moved as ledger
use Rattle.cn_ledger.specs.declared.moved.Moved.TheVariants.{On, Out}
use Rattle.cn_floor.specs.Lane.{LaneValue, LetsIn, StepsOn}
use Rattle.cn_handles.specs.declared.handles.moved.Moved.{Moved}

-- a step of a client, as C sees it
abbrev pub moved_of : ℕ → ledger.Moved → Moved
moved_of client (On b n wire) = record { client = client; has_left = 0; place = b; number = n; next = wire }
moved_of client (Out i n name) = record { client = client; has_left = 1; place = i; number = n; next = name }

-- the first client on a wire goes by its end
pub record IsStepped (old new : LaneValue) (wire : ℕ) (moved : Moved) : Type 0 where
  pub token : ℕ
  pub client : ℕ
  pub number : ℕ
  pub answer : ledger.Moved
  pub first : first_of (on old.yard.lists wire) ≡ Some token
  pub stepped : StepsOn old new token client wire number answer
  pub copied : moved ≡ moved_of client answer

-- a client came in, last on the wire of its entry
abbrev pub IsEntered : LaneValue → LaneValue → ℕ → ℕ → Type 0
IsEntered l k client entry = (token : ℕ) × LetsIn l k token client entry

-- the same of what handles have
abbrev pub EntersBy : Option LaneValue → Option LaneValue → ℕ → ℕ → Type 0
EntersBy old new client entry = (l k : LaneValue) × (old ≡ Some l) × (new ≡ Some k) × IsEntered l k client entry

-- the first client on a wire of a lane goes by its end
abbrev pub Steps : Option LaneValue → Option LaneValue → ℕ → Moved → Type 0
Steps old new wire moved = (l k : LaneValue) × (old ≡ Some l) × (new ≡ Some k) × IsStepped l k wire moved
