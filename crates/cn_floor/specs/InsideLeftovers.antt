-- What the leftovers of a floor keep.
use Rattle.std.specs.Prelude.{ℕ, Option, None, Some, IfSome}
use Rattle.cn_yard.specs.Lists.{Yard}
use Rattle.cn_floor.specs.declared.floor.leftovers.Leftovers.TheInside.{Inside}
use Rattle.cn_floor.specs.Carried.{LeftoversValue}
use Rattle.cn_floor.specs.Lane.{IsIdle}

-- how many records of a yard are free, if there is one
abbrev pub spare_in : Option Yard → ℕ
spare_in None = 0
spare_in (Some yard) = yard.spare

-- leftovers as contracts see them
abbrev pub leftovers_of : Inside → LeftoversValue
leftovers_of l = record { words = l.words; spare = spare_in l.yard }

-- their yard fits the network, and nobody is in it
abbrev pub KeepsLeftovers : Inside → Type 0
KeepsLeftovers l = IfSome l.yard (λ yard. IsIdle l.words.network yard.lists)
