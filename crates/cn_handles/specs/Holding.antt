-- What a handle owns.
use Rattle.std.specs.Prelude.{Option, None, Some}
use base.Fml.{Fml, feq}
use denote.RattleType.{RattleType}
use denote.RawPtr.{Ptr, null_ptr}
use Rattle.std.specs.declared.alloc.Global.{Global}
use Rattle.std.specs.contracts.impls.GlobalAllocator.TheImpl.{ghosts}
use Rattle.std.specs.Box.Ownership.{box_owns}
use Rattle.cn_handles.specs.contracts.handles.floor_record.FloorRecord as floor_record
use Rattle.cn_handles.specs.contracts.handles.held.Held as held
use Rattle.cn_handles.specs.contracts.handles.held_lane.HeldLane as held_lane
use Rattle.cn_handles.specs.contracts.handles.held_taker.HeldTaker as held_taker

-- The type of what a handle has.
abbrev pub the_row : RattleType
the_row = held.the_row held_lane.the_row floor_record.the_row held_taker.the_row

-- The box at the pointer; where there is none, the pointer is null.
module _ (R : RattleType) (a : Global) (at : Ptr) where
  abbrev pub holds : Option R.Denot → Fml
  holds None = feq Ptr at null_ptr
  holds (Some x) = box_owns (ghosts.dealloc_token a) R at x
