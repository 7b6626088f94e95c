-- A handle may cross threads, as what it holds may.
use Rattle.cn_handles.proofs.Common.{Option, None, Some, Keyless, lone, Ptr, IsSend, AllSend, owning_send, struct_send, sendable, exits_of, shape, fields, to, holds}
use mir.Raw.{raw}
use Rattle.std.specs.declared.alloc.Global.{Global}
use Rattle.std.proofs.alloc.Global.TheSendSync as heap
use Rattle.std.proofs.Crossing.{frees}
use Rattle.cn_handles.specs.Holding as held
use Rattle.cn_handles.proofs.Loosened.{lies, quiet}
use Rattle.cn_handles.proofs.handles.floor_record.FloorRecord.TheSendSync as record_crosses
use Rattle.cn_handles.proofs.handles.held.Held.TheSendSync as held_crosses
use Rattle.cn_handles.proofs.handles.held_lane.HeldLane.TheSendSync as lane_crosses
use Rattle.cn_handles.proofs.handles.held_taker.HeldTaker.TheSendSync as taker_crosses
use Rattle.cn_handles.specs.contracts.handles.handle.Handle.{the_row, the_type}

held_keyless : (a : Global) (p : Ptr) (x : Option (held.the_row).Denot) → Keyless (holds held.the_row a p x)
held_keyless a p None = tt
held_keyless a p (Some x) = (
  lies held.the_row
      (held_crosses.the_send _ _ _ lane_crosses.the_send record_crosses.the_send taker_crosses.the_send) p x,
  frees.frees a (raw (lone (held.the_row).mir)) p,
)

pub send : IsSend the_row
send =
    let all : AllSend (fields the_type) = (search sendable, (heap.the_field_send, tt)) in
    owning_send the_type all (λ d. held_keyless d.alloc d.at d.held)
    (λ k. quiet (to the_type) (exits_of k (fields the_type)) ((struct_send (shape the_type) all).leaving k))
