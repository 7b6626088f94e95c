-- What digits are worth.
use Rattle.cn_texts.proofs.Common.{◌≡◌, sym, ◌+◌, ◌*◌, ◌-◌, ◌%◌, ◌&&◌, ◌∙◌, ◌<◌, ◌≤◌, ◌^◌, ℕ, suc, List, [], ◌∷◌, true, ap, drop, get_or, length, refl, arith, Some, None, if◌then◌else◌, Option, list_all, nat_tests, digit_value, is_ascii_digit, digits_value, digits_value_after, value_in}
use Rattle.std.proofs.lemmas.Option.{cond_some}
use Rattle.std.proofs.Math.Nat.{pow-le-pow_right, pow-suc, pow-succ', pow-zero}

-- a byte that is a digit is worth what it is modulo 16
pub worth-of : (byte : ℕ) → is_ascii_digit byte ≡ true → digit_value byte ≡ byte % 16
worth-of byte digit = grind (arith, nat_tests)

-- bytes that each count at most 15, of which no more are summed than a word has room for
pub sum-more : (i sum byte : ℕ) → 3 * sum + 5 ≤ 5 * 10 ^ i → 3 * (10 * sum + byte % 16) + 5 ≤ 5 * 10 ^ (i + 1)
sum-more i sum byte before = let next : i + 1 ≡ suc i = omega arith in omega (arith, pow-suc 10 i, ap (λ k. 10 ^ k) next)

pub sum-fits : (i sum byte : ℕ) → i ≤ 18 → 3 * sum + 5 ≤ 5 * 10 ^ i → 10 * sum + byte % 16 < 2 ^ 64
sum-fits i sum byte few before = let most : 10 ^ i ≤ 10 ^ 18 = pow-le-pow_right {n = 10} (omega arith) few in omega arith

-- the value of a text if each byte is a digit
abbrev pub front_value : List ℕ → Option ℕ
front_value ds = if list_all is_ascii_digit ds then Some (digits_value 10 ds) else None

-- the number of a text if each byte is a digit
abbrev pub whole_value : List ℕ → Option ℕ
whole_value ds = if list_all is_ascii_digit ds then value_in ds else None

-- a field of 20 bytes is its first and the others; one of 19 is worth what it is with a zero before it
pub record IsLed (ds : List ℕ) (lead : ℕ) (rest : List ℕ) : Type 0 where
  pub all : list_all is_ascii_digit ds ≡ (is_ascii_digit lead && list_all is_ascii_digit rest)
  pub worth : digits_value 10 ds ≡ digit_value lead * 10 ^ 19 + digits_value 10 rest

after-weighs : (n : ℕ) (ds : List ℕ) → digits_value_after 10 n ds ≡ n * 10 ^ length ds + digits_value 10 ds
after-weighs n [] = omega (arith, ap (λ x. n * x) (pow-zero 10))
after-weighs n (d ∷ ds) =
    let alone : digits_value 10 (d ∷ ds) ≡ (0 * 10 + digit_value d) * 10 ^ length ds + digits_value 10 ds =
    after-weighs (0 * 10 + digit_value d) ds in
    omega (arith, after-weighs (n * 10 + digit_value d) ds, alone, ap (λ x. n * x) (pow-succ' 10 (length ds)))

led-by-first : (ds : List ℕ) → length ds ≡ 20 → IsLed ds (get_or ds 0 0) (drop 1 ds)
led-by-first [] long = absurd (omega arith)
led-by-first (d ∷ ds) long =
    let others : length ds ≡ 19 = omega arith in
    let alone : digits_value 10 (d ∷ ds) ≡ (0 * 10 + digit_value d) * 10 ^ length ds + digits_value 10 ds =
    after-weighs (0 * 10 + digit_value d) ds in
    let all : IsLed (d ∷ ds) d ds = record { all = refl; worth = omega (arith, alone, ap (λ x. digit_value d * 10 ^ x) others) } in
    all

led-by-zero : (ds : List ℕ) → IsLed ds 48 ds
led-by-zero ds = record { all = refl; worth = omega arith }

pub led-if-longer : (ds : List ℕ) (lead : ℕ) → length ds ≡ 20 → lead ≡ get_or ds 0 0 → IsLed ds lead (drop (length ds - 19) ds)
led-if-longer ds lead long is = let after : length ds - 19 ≡ 1 = omega arith in rw (after, is) (led-by-first ds long)

pub led-if-shorter : (ds : List ℕ) (lead : ℕ) → length ds ≡ 19 → lead ≡ 48 → IsLed ds lead (drop (length ds - 19) ds)
led-if-shorter ds lead short is = let after : length ds - 19 ≡ 0 = omega arith in rw (after, is) (led-by-zero ds)

-- bytes that are digits, and what they are worth
pub record IsWhole (ds : List ℕ) (value : ℕ) : Type 0 where
  pub digits : list_all is_ascii_digit ds ≡ true
  pub worth : digits_value 10 ds ≡ value

pub with_lead : (ds : List ℕ) (lead : ℕ) (rest : List ℕ) (digit value : ℕ) → IsLed ds lead rest → is_ascii_digit lead ≡ true
    → digit_value lead ≡ digit
    → Some value ≡ front_value rest → IsWhole ds (10000000000000000000 * digit + value)
with_lead ds lead rest digit value led is worth some =
    let after = cond_some _ _ _ (sym some) in
    record { digits = led.all ∙ rw (is, after.0) refl; worth = omega (arith, led.worth, worth, after.1) }

pub small-whole : (ds : List ℕ) (v : ℕ) → 0 < length ds → IsWhole ds v → v < 2 ^ 64 → Some v ≡ whole_value ds
small-whole ds v some whole small = grind (arith, nat_tests, whole.digits, whole.worth)

pub large-whole : (ds : List ℕ) (v : ℕ) → IsWhole ds v → 2 ^ 64 ≤ v → None ≡ whole_value ds
large-whole ds v whole large = grind (arith, nat_tests, whole.digits, whole.worth)
