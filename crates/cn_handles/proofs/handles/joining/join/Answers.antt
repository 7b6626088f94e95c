use Rattle.cn_handles.proofs.handles.joining.join.Goals as goal

pub returns-in-Err-clause-refused : goal.returns-in-Err-clause-refused
returns-in-Err-clause-refused c = rw (c.in_ok-held.ensures.taken, c.refusal.ensures) c.in-Err.ensures.refused
