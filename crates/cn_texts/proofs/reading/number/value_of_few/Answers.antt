use Rattle.cn_texts.proofs.Common.{◌∙◌, get_or, sym, arith, is_ascii_digit, list_all_more}
use Rattle.std.proofs.lemmas.Bool.{and_parts}
use Rattle.std.proofs.lemmas.Int.Digits.{digits_value_more}
use Rattle.cn_texts.proofs.ReadingLemmas.Digits.{sum-fits, sum-more, worth-of}
use Rattle.cn_texts.proofs.reading.number.value_of_few.Goals as goal

pub overflow_mul-value : goal.overflow_mul-value
overflow_mul-value c =
    omega (
      arith,
      sum-fits c.loop-digit.digit-index c.loop-digit.value (get_or c.args.digits.now c.loop-digit.digit-index 0) (omega arith)
          c.loop-digit.invariant.2,
    )

pub overflow_add-value : goal.overflow_add-value
overflow_add-value c =
    omega (
      arith,
      sum-fits c.loop-digit.digit-index c.loop-digit.value (get_or c.args.digits.now c.loop-digit.digit-index 0) (omega arith)
          c.loop-digit.invariant.2,
    )

pub loop-digit-preserved : goal.loop-digit-preserved
loop-digit-preserved c =
    let ds = c.args.digits.now in
    let i = c.loop-digit.digit-index in
    let byte = get_or ds i 0 in
    let is = c.is_ascii_digit-are_digits.ensures.value in (
      rw (c.loop-digit.invariant.0, is) (sym (list_all_more is_ascii_digit ds i 0 c.loop-digit-test.true)),
      (λ are. let two = and_parts c.loop-digit.are_digits c.is_ascii_digit-are_digits.result are in
          omega (arith, worth-of byte (sym is ∙ two.1), digits_value_more 10 ds i c.loop-digit-test.true, c.loop-digit.invariant.1 two.0)),
      omega (arith, sum-more i c.loop-digit.value byte c.loop-digit.invariant.2),
    )
