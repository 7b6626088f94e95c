-- Why closes of floors stop.
use Rattle.std.specs.Prelude.{◌≡◌, ℕ, Option, ⊤, length}
use Rattle.cn_floor.specs.Lane.{LaneValue}
use Rattle.cn_handles.specs.Refusals.{WithLane}
use Rattle.cn_handles.specs.declared.places.closing.CloseStop.{CloseStop}
use Rattle.cn_handles.specs.declared.places.closing.CloseStop.TheVariants.{Nothing, StillWalking, LanesMissing, Memory, LanesThere}
use Rattle.cn_handles.specs.declared.handles.floor_record.RecordLists.{RecordLists}
use Rattle.cn_handles.specs.declared.handles.refusal.Refusal.{Refusal}
use Rattle.cn_handles.specs.declared.handles.refusal.Refusal.TheVariants as why

-- lists for the record of a floor of this width, with so many names
abbrev pub HaveLengths : ℕ → ℕ → RecordLists → Type 0
HaveLengths width names lists = (length lists.counts.items ≡ width) × (length lists.holders.items ≡ names)

-- what a close leaves that stops because of other owners: the lists for its record, which got memory
abbrev pub StopsClose : Option LaneValue → CloseStop → Type 0
StopsClose lane Nothing = ⊤
StopsClose lane StillWalking = ⊤
StopsClose lane LanesMissing = ⊤
StopsClose lane (Memory none) = ⊤
StopsClose lane (LanesThere others) =
    WithLane lane (λ l. HaveLengths l.home.start.network.table.width (length l.view.grants) others.lists)

-- the refusal by which a close stops
abbrev pub refusal_of_close : CloseStop → Refusal
refusal_of_close Nothing = why.Nothing
refusal_of_close StillWalking = why.StillWalking
refusal_of_close LanesMissing = why.LanesMissing
refusal_of_close (Memory none) = why.Memory
refusal_of_close (LanesThere others) = why.LanesThere
