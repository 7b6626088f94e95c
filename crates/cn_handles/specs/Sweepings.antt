-- What sweeps make of lanes.
use Rattle.std.specs.Prelude.{◌≡◌, ℕ, Option, Some}
use Rattle.cn_floor.specs.declared.view.Sweep.{Sweep}
use Rattle.cn_floor.specs.declared.view.Sweep.TheVariants.{On, Out}
use Rattle.cn_floor.specs.Lane.{LaneValue}
use Rattle.cn_floor.specs.Sweeps.{SweepsOn}
use Rattle.cn_handles.specs.declared.handles.moved.Swept.{Swept}

-- a sweep as C sees it
abbrev pub swept_of : Sweep → Swept
swept_of (On b n tokens) = record { have_left = 0; place = b; first = n; clients = tokens }
swept_of (Out i n tokens) = record { have_left = 1; place = i; first = n; clients = tokens }

-- all clients on a wire go by its end, by one step
pub record IsSwept (old new : LaneValue) (wire : ℕ) (swept : Swept) : Type 0 where
  pub number : ℕ
  pub answer : Sweep
  pub went : SweepsOn old new wire number answer
  pub copied : swept ≡ swept_of answer

-- all clients on a wire of a lane go by its end
abbrev pub Sweeps : Option LaneValue → Option LaneValue → ℕ → Swept → Type 0
Sweeps old new wire swept = (l k : LaneValue) × (old ≡ Some l) × (new ≡ Some k) × IsSwept l k wire swept
