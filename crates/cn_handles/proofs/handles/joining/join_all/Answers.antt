use Rattle.cn_handles.proofs.handles.joining.join_all.Goals as goal

pub returns-in-Ok-clause-joined : goal.returns-in-Ok-clause-joined
returns-in-Ok-clause-joined c =
    let (n, times, many, whole) = c.in-Ok.ensures.ok in
    rw (c.in_ok-held.ensures.taken, c.put_lane.ensures) (n, times)

pub returns-in-Err-clause-refused : goal.returns-in-Err-clause-refused
returns-in-Err-clause-refused c = rw (c.put_lane-in-Err.ensures, c.refusal.ensures) c.in-Err.ensures.refused
