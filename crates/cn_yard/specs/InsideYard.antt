-- What a yard holds.
use Rattle.std.specs.Prelude.{◌≡◌, ◌⊎◌, ℕ, ◌+◌, List, [], length, map}
use Rattle.std.specs.List.{range_with_len}
use Rattle.cn_yard.specs.declared.records.Record.{Record}
use Rattle.cn_yard.specs.declared.lines.Line.{Line}
use Rattle.cn_yard.specs.declared.yard.Yard.TheInside.{Inside}
use Rattle.cn_yard.specs.Chains.{walk}
use Rattle.cn_yard.specs.Lines.{count_of, line_of}
use Rattle.cn_yard.specs.Records.{client_of, next_of}
use Rattle.cn_yard.specs.Moving.{IsLined}
use Rattle.cn_yard.specs.Lists.{Lists, Yard}

-- numbers, each with its client
abbrev pub with_clients : (ℕ → ℕ) → List ℕ → List (ℕ × ℕ)
with_clients client list = map (λ n. (n, client n)) list

-- the numbers on a line
abbrev pub walked : List Record → List Line → ℕ → List ℕ
walked records lines u = walk (next_of records) (count_of lines u) (line_of lines u).first

-- the tokens on the wires
abbrev pub lists_of : Inside → Lists
lists_of y =
    map (λ u. with_clients (client_of y.records.items) (walked y.records.items y.lines.items u))
    (range_with_len 0 y.wires)

-- the free records are on the line after the last wire
abbrev pub yard_of : Inside → Yard
yard_of y = record { lists = lists_of y; spare = count_of y.lines.items y.wires }

-- what a yard's records and lines keep, with the numbers of each line from first to last: the last line is that of the
-- free records
pub record Keeps (y : Inside) (order : ℕ → List ℕ) : Type 0 where
  pub lined : IsLined y.records.items y.lines.items y.marks.items order
  pub wires : length y.lines.items ≡ y.wires + 1

-- no line was made yet, and no record
pub record IsBare (y : Inside) : Type 0 where
  pub records : y.records.items ≡ []
  pub lines : y.lines.items ≡ []
  pub marks : y.marks.items ≡ []

-- the yard is bare, or some lists of numbers are those of the lines. It opens only if that is asked: a caller's proof
-- needs nothing of it
unfoldable pub IsYard : Inside → Type 0
IsYard y = IsBare y ⊎ ((order : ℕ → List ℕ) × Keeps y order)
