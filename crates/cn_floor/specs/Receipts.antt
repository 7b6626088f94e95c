-- The closed floor that a receipt is of.
use Rattle.std.specs.Prelude.{ℕ, List}
use Rattle.cn_floor.specs.Ends.{IsClosedFloor, QuietValue}
use Rattle.cn_floor.specs.Lane.{LaneValue}
use Rattle.cn_floor.specs.Spread.{words_in}

-- a closed floor by its lane, and by what its table has, in which words lie a stride apart
abbrev pub floor_by : LaneValue → List ℕ → ℕ → QuietValue
floor_by lane spaced stride = record { start = lane.home.start; did = lane.view; words = words_in stride spaced }

-- it is one
abbrev pub WasClosed : QuietValue → Type 0
WasClosed floor = IsClosedFloor floor.start floor.did floor.words
