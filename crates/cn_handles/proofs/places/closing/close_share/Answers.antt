use Rattle.cn_handles.proofs.places.closing.close_share.Goals as goal

pub invariant_of-back : goal.invariant_of-back
invariant_of-back c =
    let refused = rw c.in-Err-Memory.field-0-is at c.in-Err-Memory.ensures.refused in
    record { rows = rw refused.0 c.places.invariant.rows; many = c.places.invariant.many }
