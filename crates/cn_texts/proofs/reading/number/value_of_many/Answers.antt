use Rattle.cn_texts.proofs.Common.{◌≡◌, ◌-◌, arith, drop, length, sym, take_rest, nat_tests, digit_value}
use Rattle.cn_texts.proofs.ReadingLemmas.Digits.{IsLed, large-whole, led-if-longer, led-if-shorter, small-whole, with_lead}
use Rattle.cn_texts.proofs.reading.number.value_of_many.Goals as goal
use Rattle.cn_texts.proofs.reading.number.value_of_many.Goals.{else-field-eq-MOST_DIGITS, then-field-eq-MOST_DIGITS}

pub returns-then-value-from : goal.returns-then-value-from
returns-then-value-from c =
    let ds = c.args.field.now in
    let lead = c.if-field-eq-MOST_DIGITS.lead in
    let led : IsLed ds lead (drop (length ds - 19) ds) = elim c.if-field-eq-MOST_DIGITS.branch [
      | then-field-eq-MOST_DIGITS w ↦ led-if-longer ds lead w.if-field-eq-MOST_DIGITS.true w.lead-is
      | else-field-eq-MOST_DIGITS w ↦ led-if-shorter ds lead (omega arith) w.lead-is
    ] in
    let digit : digit_value lead ≡ c.from.result = grind (arith, nat_tests) in
    let some = rw (take_rest ds (length ds - 19)) at c.in-Some.ensures in
    let whole = with_lead ds lead _ c.from.result c.in-Some.rest led (sym c.if-not-is_ascii_digit.ensures.value) digit some in
    large-whole ds _ whole (omega arith)

pub returns : goal.returns
returns c =
    let ds = c.args.field.now in
    let lead = c.if-field-eq-MOST_DIGITS.lead in
    let led : IsLed ds lead (drop (length ds - 19) ds) = elim c.if-field-eq-MOST_DIGITS.branch [
      | then-field-eq-MOST_DIGITS w ↦ led-if-longer ds lead w.if-field-eq-MOST_DIGITS.true w.lead-is
      | else-field-eq-MOST_DIGITS w ↦ led-if-shorter ds lead (omega arith) w.lead-is
    ] in
    let digit : digit_value lead ≡ c.from.result = grind (arith, nat_tests) in
    let some = rw (take_rest ds (length ds - 19)) at c.in-Some.ensures in
    let whole = with_lead ds lead _ c.from.result c.in-Some.rest led (sym c.if-not-is_ascii_digit.ensures.value) digit some in
    rw c.from-2.ensures (small-whole ds _ (omega arith) whole (omega arith))
