-- Records that move from line to line.
use Rattle.std.specs.Prelude.{◌≡◌, ◌≢◌, ℕ, ◌+◌, ◌*◌, ◌^◌, ◌<◌, ◌≤◌, ◌==◌, nat_lt, if◌then◌else◌, List, length}
use Rattle.cn_spec.specs.Sums.{sum_below, times, when}
use Rattle.cn_spec.specs.declared.limits.TheConstants.{MOST_TOKENS}
use Rattle.cn_yard.specs.declared.records.Record.{Record}
use Rattle.cn_yard.specs.declared.lines.Line.{Line}
use Rattle.cn_yard.specs.Lines.{Linked, count_of}
use Rattle.cn_yard.specs.Records.{client_of, wire_of}
use Rattle.cn_yard.specs.Marks.{marked}

-- each record is on the line that it names, once, and on no other
pub record IsLinks (records : List Record) (lines : List Line) (order : ℕ → List ℕ) : Type 0 where
  pub linked : Linked records lines order
  pub within : (n : ℕ) → n < length records → wire_of records n < length lines
  pub there : (n : ℕ) → n < length records → times n (order (wire_of records n)) ≡ 1
  pub all : sum_below (length lines) (λ u. length (order u)) ≡ length records

-- the lines with a mark are those on which a record stands
abbrev pub HasMarks : List Line → List ℕ → Type 0
HasMarks lines words =
    (u : ℕ) → u < length lines → marked words u ≡ when (nat_lt 0 (count_of lines u)) 1

-- records on lines, with the marks of the lines on which any stand
pub record IsLined (records : List Record) (lines : List Line) (words : List ℕ)
    (order : ℕ → List ℕ) : Type 0 where
  pub links : IsLinks records lines order
  pub few : length records ≤ MOST_TOKENS
  pub marks : HasMarks lines words
  pub room : length lines ≤ 64 * length words
  pub short : length words < 2 ^ 32

-- what a move leaves
pub record IsMove (records : List Record) (lines : List Line)
    (records' : List Record) (lines' : List Line) (number to : ℕ) : Type 0 where
  pub len : length records' ≡ length records
  pub as_many : length lines' ≡ length lines
  pub wire : (n : ℕ) → wire_of records' n ≡ (if n == number then to else wire_of records n)
  pub client : (n : ℕ) → client_of records' n ≡ client_of records n
  pub count : (u : ℕ) → count_of lines' u + when (wire_of records number == u) 1
      ≡ count_of lines u + when (to == u) 1

-- what an added record leaves
pub record IsAdded (records : List Record) (lines : List Line)
    (records' : List Record) (lines' : List Line) (wire : ℕ) : Type 0 where
  pub len : length records' ≡ length records + 1
  pub as_many : length lines' ≡ length lines
  pub client : (n : ℕ) → n < length records → client_of records' n ≡ client_of records n
  pub count : (u : ℕ) → count_of lines' u ≡ count_of lines u + when (wire == u) 1

-- what records that are added to one line leave
pub record IsMore (records : List Record) (lines : List Line)
    (records' : List Record) (lines' : List Line) (to : ℕ) : Type 0 where
  pub more : length records ≤ length records'
  pub len : length records' + count_of lines to ≡ length records + count_of lines' to
  pub as_many : length lines' ≡ length lines
  pub client : (n : ℕ) → n < length records → client_of records' n ≡ client_of records n

-- lists that differ at one line only
abbrev pub SameBut : ℕ → (ℕ → List ℕ) → (ℕ → List ℕ) → Type 0
SameBut to order order' = (u : ℕ) → u ≢ to → order' u ≡ order u

-- the other lines run through the lists through which they ran
abbrev pub Fills : List Record → List Line → List ℕ → List Record → List Line → List ℕ → ℕ → Type 0
Fills records lines words records' lines' words' to = (order : ℕ → List ℕ)
    → IsLined records lines words order
    → (order' : ℕ → List ℕ) × IsLined records' lines' words' order' × SameBut to order order'
