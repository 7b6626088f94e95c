-- Two lanes of one floor, looked at together.
use Rattle.std.specs.Prelude.{ℕ, ◌+◌, ◌-◌, ◌≤◌, ◌++◌, length, map, max}
use Rattle.std.specs.List.{range_with_len}
use Rattle.cn_spec.specs.Sums.{times}
use Rattle.cn_yard.specs.Lists.{on}
use Rattle.cn_floor.specs.declared.view.Start.{Start}
use Rattle.cn_floor.specs.declared.view.View.{View}
use Rattle.cn_floor.specs.Steps.{StoodInState}
use Rattle.cn_floor.specs.Views.{after_entered, nobody}

-- two views as one, in one step: on each wire the tokens of the first, and then those of the second
abbrev pub both_of : View → View → View
both_of v w = record v {
  quota = v.quota + w.quota;
  entries = v.entries ++ w.entries;
  came = v.came ++ w.came;
  tokens = map (λ u. on v.tokens u ++ on w.tokens u) (range_with_len 0 (length v.tokens));
  passages = v.passages ++ w.passages;
  grants = v.grants ++ w.grants;
  seen = max v.seen w.seen;
  steps = v.steps + w.steps + 1;
}

-- the two views of which one was made
pub record Pair : Type 0 where
  pub first : View
  pub second : View

-- no views, for a cut of which nothing is asked
abbrev pub no_pair : Pair
no_pair = record { first = nobody; second = nobody }

-- one view cut in these two again, in one step; both have its answer of how many came in, and the first has its steps
-- but for those of the second
abbrev pub cut_first : Pair → View → View
cut_first pair both = record pair.first { seen = both.seen; steps = both.steps - pair.second.steps + 1 }

-- and the second of the two
abbrev pub cut_second : Pair → View → View
cut_second pair both = record pair.second { seen = both.seen }

-- no name stands in both lanes, or twice in one
abbrev pub HaveDistinctNames : View → View → Type 0
HaveDistinctNames v w =
    (name : ℕ) → times name (map (λ g. g.name) v.grants) + times name (map (λ g. g.name) w.grants) ≤ 1

-- in some state of the floor a lane has both views as one, with this answer of how many came in
abbrev pub StoodAsOne : Start → View → View → ℕ → Type 0
StoodAsOne start v w answer = (steps : ℕ) × StoodInState start (record (both_of v w) { seen = answer; steps = steps })

-- a lane looked so many times
abbrev pub after_looks : ℕ → View → View
after_looks n v = record v { steps = v.steps + n }

-- what two lanes are after a look at both, which gives this answer of how many came in: the first loads the word of
-- each entry once
abbrev pub first_after : Start → ℕ → View → View
first_after start entered v = after_looks 3 (after_entered start entered v)

-- and the second looked once
abbrev pub second_after : ℕ → View → View
second_after entered w = record w { seen = entered; steps = w.steps + 1 }
