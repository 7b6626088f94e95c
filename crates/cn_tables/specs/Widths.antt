-- The widths of networks.
use Rattle.std.specs.Prelude.{◌≡◌, ℕ, ◌^◌, ◌≤◌}
use Rattle.cn_spec.specs.declared.limits.TheConstants.{MOST_LEVEL}

-- networks of this level are built, and of this width
pub record IsWidthOf (level width : ℕ) : Type 0 where
  pub some : 1 ≤ level
  pub small : level ≤ MOST_LEVEL
  pub wide : width ≡ 2 ^ level

-- a power of two from 2 to that of the greatest level
abbrev pub IsWidth : ℕ → Type 0
IsWidth width = (level : ℕ) × IsWidthOf level width
