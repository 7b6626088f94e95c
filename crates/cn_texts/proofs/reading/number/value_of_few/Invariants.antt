use Rattle.cn_texts.proofs.Common.{◌≡◌, ◌+◌, ◌*◌, ◌≤◌, ◌^◌, true, take, list_all, is_ascii_digit, digits_value}
use Rattle.cn_texts.proofs.reading.number.value_of_few.Given as goal

-- a byte counts at most 15, so the sum of n bytes is at most 15 * (10 ^ n - 1) / 9: the last fact, with no division
abbrev pub invariant-loop-digit : goal.invariant-loop-digit
invariant-loop-digit l =
    (l.are_digits ≡ list_all is_ascii_digit (take l.digit-index l.digits))
    × (l.are_digits ≡ true → l.value ≡ digits_value 10 (take l.digit-index l.digits)) × (3 * l.value + 5 ≤ 5 * 10 ^ l.digit-index)
