use Rattle.cn_texts.proofs.Common.{◌≡◌, ◌+◌, ◌≤◌, ◌∙◌, false, ap, arith, length, subst, sym, take, Pending, Appends}
use Rattle.cn_texts.proofs.WritingLemmas.Putting.{written-all, written-some}
use Rattle.cn_texts.proofs.writing.pieces.Pieces.write_held.Goals as goal

pub returns-in-Ok-clause-puts : goal.returns-in-Ok-clause-puts
returns-in-Ok-clause-puts g c =
    let held = c.deref.ensures.value ∙ ap (λ (p : Pending). p.held) c.self.view_is in
    let ok : c.args.self.now.failed ≡ false = ap (λ (p : Pending). p.failed) (sym c.self.view_is) ∙ c.if-self.false in
    let all = c.in-Some.ensures in
    let counted : c.in-Some.written ≡ c.args.self.now.written + length c.args.self.now.held =
    omega (arith, all, c.len.ensures, c.deref.ensures.len, ap length held, ap (λ (p : Pending). p.written) c.self.view_is) in
    record {
      goes = λ before text left way.
          written-all before (g.W.Write.contents c.args.writer.now) (g.W.Write.contents c.write_whole.new.writer) c.args.self.now _ text
          left ok
          (subst (Appends _ _) held c.in-Ok.ensures.all) c.clear.ensures.items counted way;
    }

pub returns-in-Err-clause-puts : goal.returns-in-Err-clause-puts
returns-in-Err-clause-puts g c =
    let held = c.deref.ensures.value ∙ ap (λ (p : Pending). p.held) c.self.view_is in
    let ok : c.args.self.now.failed ≡ false = ap (λ (p : Pending). p.failed) (sym c.self.view_is) ∙ c.if-self.false in
    let count = c.in-Err.fault.written in
    let within : count ≤ length c.args.self.now.held = omega (arith, c.in-Err.ensures.within, ap length held) in
    record {
      goes = λ before text left way.
          written-some before (g.W.Write.contents c.args.writer.now) (g.W.Write.contents c.write_whole.new.writer) c.args.self.now
          c.fail-in-Err.new.self text left count ok
          (ap (λ (p : Pending). p.failed) c.fail-in-Err.ensures) within
          (subst (λ t. Appends (g.W.Write.contents c.args.writer.now) (g.W.Write.contents c.write_whole.new.writer) (take count t)) held
          c.in-Err.ensures.front)
          (ap (λ (p : Pending). p.written) c.fail-in-Err.ensures) way;
    }
