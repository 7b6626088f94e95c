-- Records that are linked by their numbers into lines. An `order` has, for each line, its numbers from first to last.
use Rattle.std.specs.Prelude.{◌≡◌, ℕ, ◌+◌, ◌-◌, ◌<◌, ◌≤◌, ◌==◌, if◌then◌else◌, List, length, get_or}
use Rattle.cn_spec.specs.Sums.{times, when}
use Rattle.cn_yard.specs.declared.records.Record.{Record}
use Rattle.cn_yard.specs.declared.lines.Line.{Line}
use Rattle.cn_yard.specs.Chains.{Chain, head_or, last_or}
use Rattle.cn_yard.specs.Records.{client_of, next_of, prev_of, wire_of}

-- what is read if there is no line
abbrev pub no_line : Line
no_line = record { first = 0; last = 0; count = 0 }

-- the line with a number
abbrev pub line_of : List Line → ℕ → Line
line_of lines u = get_or lines u no_line

-- how many records stand on a line
abbrev pub count_of : List Line → ℕ → ℕ
count_of lines u = (line_of lines u).count

-- a line's count and its ends are those of a list; the ends of a line with nobody may be any
pub record Ends (line : Line) (list : List ℕ) : Type 0 where
  pub count : line.count ≡ length list
  pub first : head_or line.first list ≡ line.first
  pub last : last_or line.last list ≡ line.last

-- the lines run through these lists of numbers, and no number is met twice
pub record Linked (records : List Record) (lines : List Line) (order : ℕ → List ℕ) : Type 0 where
  pub chain : (u : ℕ) → u < length lines → Chain (next_of records) (prev_of records) (order u)
  pub ends : (u : ℕ) → u < length lines → Ends (line_of lines u) (order u)
  pub once : (n u : ℕ) → u < length lines → times n (order u) ≤ when (wire_of records n == u) 1
  pub below : (n u : ℕ) → u < length lines → 1 ≤ times n (order u) → n < length records

-- a number is on no line
abbrev pub OffLine : List Line → (ℕ → List ℕ) → ℕ → Type 0
OffLine lines order number = (u : ℕ) → u < length lines → times number (order u) ≡ 0

-- a line without a number that stands between these two
abbrev pub line_without : Line → ℕ → ℕ → ℕ → Line
line_without line number prev next = record {
  first = if line.first == number then next else line.first;
  last = if line.last == number then prev else line.last;
  count = line.count - 1;
}

-- a line with a number at its end
abbrev pub line_with : Line → ℕ → Line
line_with line number = record {
  first = if line.count == 0 then number else line.first;
  last = number;
  count = line.count + 1;
}

-- what stays when a record is taken off its line: all but the links, and one is missing there
pub record IsOff (records : List Record) (lines : List Line)
    (records' : List Record) (lines' : List Line) (number : ℕ) : Type 0 where
  pub len : length records' ≡ length records
  pub as_many : length lines' ≡ length lines
  pub wire : (n : ℕ) → wire_of records' n ≡ wire_of records n
  pub client : (n : ℕ) → client_of records' n ≡ client_of records n
  pub count : (u : ℕ) → count_of lines' u + when (wire_of records number == u) 1 ≡ count_of lines u

-- what stays when a record is put on a line: all but the links, and one more is there
pub record IsOn (records : List Record) (lines : List Line)
    (records' : List Record) (lines' : List Line) (number to : ℕ) : Type 0 where
  pub len : length records' ≡ length records
  pub as_many : length lines' ≡ length lines
  pub wire : (n : ℕ) → wire_of records' n ≡ (if n == number then to else wire_of records n)
  pub client : (n : ℕ) → client_of records' n ≡ client_of records n
  pub count : (u : ℕ) → count_of lines' u ≡ count_of lines u + when (to == u) 1
