use Rattle.cn_texts.proofs.Common.{◌∙◌, [], ap, sym, Pending}
use Rattle.cn_texts.proofs.WritingLemmas.Putting.{cut-off, ended}
use Rattle.cn_texts.proofs.writing.pieces.Pieces.finish.Goals as goal

pub returns-then-pieces : goal.returns-then-pieces
returns-then-pieces g c first text way =
    rw (ap (λ (p : Pending). p.written) c.pieces.view_is)
    (cut-off g.W.Write.contents first c.write_held.new.writer c.write_held.new.self text []
    (c.write_held.ensures.puts.goes (g.W.Write.contents first) text [] way))

pub returns : goal.returns
returns g c first text way =
    ended g.W.Write.contents first c.write_held.new.writer c.flush_after.new.writer c.write_held.new.self text c.flush_after.result
    (ap (λ (p : Pending). p.failed) (sym c.pieces.view_is) ∙ c.if-pieces.false) c.write_held.ensures.none
    (c.write_held.ensures.puts.goes (g.W.Write.contents first) text [] way)
    c.flush_after.ensures.keeps (rw (← c.pieces.view_is) c.flush_after.ensures.at)
