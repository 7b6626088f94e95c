-- Rows of wires of a level.
use Rattle.cn_wiring.proofs.Common.{◌≡◌, ℕ, suc, ◌*◌, ◌^◌, ◌<◌, ◌≤◌, arith, lit≤, pow_below, MOST_ENDS, MOST_LEVEL, IsWidth, List, length, map, ◌∙◌, Result, Ok, Err, range_with_len, length-map, length-range_with_len, pow_pos, IsRow, IsWidthOf}
use Rattle.std.proofs.Math.Nat.{pow-succ'}
use Rattle.std.proofs.Math.Pow.{pow_mono}
use Rattle.std.specs.Result.{IfOk}

-- Levels and widths.

-- the level of a number that is a power of two, by the greatest power of two that is not above it
pub level-is-log : (n log level : ℕ) → 2 ^ log ≤ n → n < 2 * 2 ^ log → n ≡ 2 ^ level → level ≡ log
level-is-log n log level low high e =
    let more : log < level → 2 ^ suc log ≤ 2 ^ level = λ l. pow_mono l in
    let twice : 2 ^ suc log ≡ 2 * 2 ^ log = pow-succ' 2 log in
    grind (arith, pow_below level log)

-- a width is at least 2, and there may be as many ends
pub width-some : (width : ℕ) → IsWidth width → 2 ≤ width
width-some width (level, w) = let least : 2 ^ 1 ≤ 2 ^ level = pow_mono w.some in omega (arith, w.wide)

pub width-few : (level : ℕ) → level ≤ MOST_LEVEL → 2 ^ level ≤ MOST_ENDS
width-few level small =
    let most : 2 ^ level ≤ 2 ^ MOST_LEVEL = pow_mono small in
    let all : 2 ^ MOST_LEVEL ≤ MOST_ENDS = lit≤ tt in
    omega arith

-- the entries of a width are a row of its level, and so are their flows
pub entries-row : (width level : ℕ) → IsWidthOf level width → IsRow level (range_with_len 0 width)
entries-row width level l = length-range_with_len 0 width ∙ l.wide

pub flows-row : (f : ℕ → ℕ) (width level : ℕ) → IsWidthOf level width → IsRow level (map f (range_with_len 0 width))
flows-row f width level l = length-map (range_with_len 0 width) f ∙ entries-row width level l

-- what finishing a draft asks of the wires that came out of a part over all of its entries
pub outputs-count : (level : ℕ) (y : List ℕ) → level ≤ MOST_LEVEL → IsRow level y → (1 ≤ length y) × (length y ≤ MOST_ENDS)
outputs-count level y small row = (omega (arith, row, pow_pos level), omega (arith, row, width-few level small))

-- what holds of a result by three of its clauses
pub all_ok : {T E : Type 0} (r : Result T E) (P Q R S : T → Type 0) → ((x : T) → P x → Q x → R x → S x) → IfOk r P → IfOk r Q → IfOk r R
    → IfOk r S
all_ok (Ok x) P Q R S f p q s = f x p q s
all_ok (Err e) P Q R S f p q s = tt
