-- What has come to a balancer and passed it.
use Rattle.std.specs.Prelude.{ℕ, ◌+◌, List, slice_index}

-- the tokens that have come by each of the two inputs, and how many have passed
pub record Traffic : Type 0 where
  pub arrivals : List ℕ
  pub passages : ℕ

-- the tokens that have come, over both inputs
abbrev pub all_arrivals : Traffic → ℕ
all_arrivals t = slice_index t.arrivals 0 + slice_index t.arrivals 1
