use Rattle.cn_texts.proofs.Common.{◌<◌, ◌≤◌, ◌^◌, ◌-◌, ℕ, arith, decimal, drop, length, length-drop, length-take}
use Rattle.std.proofs.lemmas.Fmt.{length-decimal-le}
use Rattle.cn_texts.proofs.writing.line.write_part.Goals as goal

short : (n : ℕ) → n < 2 ^ 64 → length (decimal n) ≤ 20
short n fits = length-decimal-le 20 n (omega arith) (omega arith) fits

pub write_digits-middle-requires : goal.write_digits-middle-requires
write_digits-middle-requires c = (omega (arith, c.requires.room, short c.args.number (omega arith)), omega (arith, c.requires.within))

pub overflow_sub-start : goal.overflow_sub-start
overflow_sub-start c = omega (arith, c.requires.room, short c.args.number (omega arith), c.write_digits-middle.ensures.start)

pub copy_from_slice-requires : goal.copy_from_slice-requires
copy_from_slice-requires c =
    let w = c.write_digits-middle in
    let start = w.result - length c.args.word.now in
    let fits = short c.args.number (omega arith) in
    omega (
      arith,
      c.requires.room,
      c.requires.within,
      fits,
      w.ensures.start,
      w.auto.buf,
      c.as_bytes.ensures.len,
      length-take (w.result - start) (drop start w.new.buf),
      length-drop start w.new.buf,
    )

pub returns-clause-start : goal.returns-clause-start
returns-clause-start c = omega (arith, c.requires.room, short c.args.number (omega arith), c.write_digits-middle.ensures.start)
