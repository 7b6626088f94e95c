use Rattle.cn_texts.proofs.Common.{map, range_with_len, share, Puts, tight_counts}
use Rattle.cn_texts.proofs.grants.tight.send_shares.Given as goal

abbrev pub invariant-loop-exit : goal.invariant-loop-exit
invariant-loop-exit g l = Puts g.W.Write.contents l.initial.writer l.writer l.initial.pieces l.pieces
    (tight_counts (map (share l.clients l.width) (range_with_len 0 l.exit)))
