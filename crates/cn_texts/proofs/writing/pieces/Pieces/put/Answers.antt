use Rattle.cn_texts.proofs.Common.{◌≡◌, ◌∙◌, ◌++◌, ℕ, List, Option, ap, append_assoc, sym, Pending, Puts}
use Rattle.cn_texts.proofs.WritingLemmas.Putting.{put-then}
use Rattle.cn_texts.proofs.writing.pieces.Pieces.put.Goals as goal

-- what is held is put
put-held : {W : Type 0} (contents : W → Option (List ℕ)) (w : W) (from to : Pending) (bytes : List ℕ) → to.held ≡ from.held ++ bytes
    → to.written ≡ from.written → to.failed ≡ from.failed
    → Puts contents w w from to bytes
put-held contents w from to bytes held written failed = record {
  goes = λ before text left way. record {
    out = way.out;
    rest = way.rest;
    grown = way.grown;
    counted = written ∙ way.counted;
    whole = way.whole;
    held = λ ok. way.held (sym failed ∙ ok) ∙ sym (append_assoc from.held bytes left) ∙ ap (λ (t : List ℕ). t ++ left) (sym held);
  };
}

pub make_room-requires : goal.make_room-requires
make_room-requires g c = c.requires

pub hold-requires : goal.hold-requires
hold-requires g c = c.make_room.ensures.room

pub returns : goal.returns
returns g c =
    let h = c.hold.ensures in
    put-then c.make_room.ensures.puts (put-held g.W.Write.contents c.make_room.new.writer c.make_room.new.self c.hold.new.self
    c.args.bytes.now h.held h.written h.failed)
