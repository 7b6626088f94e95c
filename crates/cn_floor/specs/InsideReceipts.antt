-- What receipts keep.
use Rattle.std.specs.Mem.Slots.{slots_items}
use Rattle.std.specs.Prelude.{All, List, [], ◌∷◌, ◌++◌}
use Rattle.cn_floor.specs.declared.floor.receipts.Floors.{Floors, None, One, Both'}
use Rattle.cn_floor.specs.declared.floor.receipts.Receipts.TheInside.{Inside}
use Rattle.cn_floor.specs.Ends.{QuietValue}
use Rattle.cn_floor.specs.Receipts.{WasClosed, floor_by}

-- the floors, one after another
abbrev pub floors_in : Floors → List QuietValue
floors_in None = []
floors_in (One lane table stride) = floor_by lane.value.value (slots_items table.value.words) stride.value ∷ []
floors_in (Both' m first n second) = floors_in first ++ floors_in second

-- receipts as contracts see them
abbrev pub receipts_of : Inside → List QuietValue
receipts_of receipts = floors_in receipts.floors.value

-- each is a closed one
abbrev pub KeepsReceipts : Inside → Type 0
KeepsReceipts receipts = All WasClosed (receipts_of receipts)
