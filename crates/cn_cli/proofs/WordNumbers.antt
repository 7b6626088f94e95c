-- The digits of a number of 32 bits are read as it, and an option has the digits of one number.
use Rattle.cn_cli.proofs.Common.{◌≡◌, ℕ, ◌^◌, ◌<◌, ◌≤◌, List, Some, Result, Ok, arith, lit<, sym, ◌∙◌, decimal, Row, Text, MOST_LEVEL, IsWidth, Gives, GivesNumber}
use Rattle.std.specs.Str.Parse.{ParsesUnsigned}
use Rattle.std.proofs.lemmas.Fmt.{decimal_injective, parse-decimal}
use Rattle.std.proofs.Math.Pow.{pow_mono}

pub width-fits : (width : ℕ) → IsWidth width → width < 2 ^ 32
width-fits width (level, w) =
    let most : 2 ^ level ≤ 2 ^ MOST_LEVEL = pow_mono w.small in
    let all : 2 ^ MOST_LEVEL < 2 ^ 32 = lit< tt in
    omega (arith, w.wide)

pub parsed-number : {E : Type 0} (number : ℕ) (word : List ℕ) (r : Result ℕ E) → number < 2 ^ 32 → word ≡ decimal number
    → ParsesUnsigned 32 10 word r → r ≡ Ok number
parsed-number number word r fits e parsed = parse-decimal 32 number word r fits (omega arith) e parsed

same_ok : {X E : Type 0} (x y : X) (r : Result X E) → r ≡ Ok x → r ≡ Ok y → x ≡ y
same_ok x y r p q = let e : Ok x ≡ Ok y = sym p ∙ q in cc e

-- so a word that is read as a number is the digits of no other number
pub no_other : {E : Type 0} (number other : ℕ) (word : List ℕ) (r : Result ℕ E) → number < 2 ^ 32 → word ≡ decimal number
    → ParsesUnsigned 32 10 word r → r ≡ Ok other → other ≡ number
no_other number other word r fits e parsed said = same_ok other number r said (parsed-number number word r fits e parsed)

pub one_value : (options : List Row) (name value other : Text) → Gives options name value → Gives options name other → value ≡ other
one_value options name value other one another = let e : Some value ≡ Some other = sym one ∙ another in cc e

pub one_number : (options : List Row) (name : Text) (number other : ℕ) → GivesNumber options name number → GivesNumber options name other
    → number ≡ other
one_number options name number other one another =
    decimal_injective number other (omega (arith, one.1)) (omega (arith, another.1))
    (one_value options name (decimal number) (decimal other) one.0 another.0)
