-- How the words of a floor lie in memory.
use Rattle.std.specs.Prelude.{ℕ}
use Rattle.cn_floor.specs.declared.floor.counters.TheConstants.{MOST_STRIDE}
use Rattle.cn_floor.specs.declared.floor.words.Spacing.{Spacing}
use Rattle.cn_floor.specs.declared.floor.words.Spacing.TheVariants.{Packed, Apart}

-- how many words it is from one to the next: side by side one, apart as many as may be
abbrev pub stride_of : Spacing → ℕ
stride_of Packed = 1
stride_of Apart = MOST_STRIDE
