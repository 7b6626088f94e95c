-- A box as its pointer may cross threads, as the box may.
use mir.Raw.{raw}
use Rattle.cn_handles.proofs.Common.{lone, RattleType, IsSend, AllSend, Frees, owning_send, struct_send, sendable, exits_of, shape, fields, to, Ghosts, the_row, the_type}
use Rattle.cn_handles.proofs.Loosened.{lies, quiet}

pub send : (T A : RattleType) (g : Ghosts A.Denot) → IsSend T → IsSend A → Frees g g.dealloc_token → IsSend (the_row T A g)
send T A g s a f =
    let all : AllSend (fields (the_type T A g)) = (search sendable, (a, tt)) in
    owning_send (the_type T A g) all (λ d. (lies T s d.at d.value, f.frees d.alloc (raw (lone T.mir)) d.at))
    (λ k. quiet (to (the_type T A g)) (exits_of k (fields (the_type T A g))) ((struct_send (shape (the_type T A g)) all).leaving k))
