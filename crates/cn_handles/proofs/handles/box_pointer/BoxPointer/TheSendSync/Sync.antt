-- What a `&` to it shows is nothing of the box, so it may be shared as it may be sent.
use Rattle.cn_handles.proofs.Common.{RattleType, IsSend, IsSync, Frees, part_keyless, Ghosts, the_row}
use Rattle.cn_handles.proofs.handles.box_pointer.BoxPointer.TheSendSync.Send.{send}

pub sync : (T A : RattleType) (g : Ghosts A.Denot) → IsSend T → IsSend A → Frees g g.dealloc_token → IsSync (the_row T A g)
sync T A g s a f = record { shared = λ d b o ν q. part_keyless (the_row T A g) (send T A g s a f) q d b o }
