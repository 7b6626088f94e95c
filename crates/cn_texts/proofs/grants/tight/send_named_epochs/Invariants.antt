use Rattle.cn_texts.proofs.Common.{map, take, flat_map, Puts, with_shares, tight_line}
use Rattle.cn_texts.proofs.grants.tight.send_named_epochs.Given as goal

abbrev pub invariant-loop-epoch : goal.invariant-loop-epoch
invariant-loop-epoch g l =
    Puts g.W.Write.contents l.initial.writer l.writer l.initial.pieces l.pieces
    (flat_map tight_line (take l.epoch-index (map (with_shares l.width) l.epochs)))
